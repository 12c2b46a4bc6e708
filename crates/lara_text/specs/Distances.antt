-- Distances as texts, with `over` and `inf`: each is told from what stands behind it.
use Rattle.std.specs.Prelude.{◌≡◌, ℕ, List, codes, decimal}
use Rattle.std.proofs.Common.{refl}
use Rattle.lara_base.specs.Names.{goes_on}
use Rattle.lara_semiring.specs.MinPlus.{minplus_inf, minplus_over}
use Rattle.lara_text.specs.TableTexts.{distance_text}
use Rattle.lara_text.specs.Delimited.{IsDelimited, IsDelimited-run}
use Rattle.lara_text.specs.Numbers.{IsWord, named, named_by, no_decimal, IsRun-named, over_run}

-- `inf` is neither `over` nor a number
inf_alone : (n : ℕ) → IsWord n → codes "inf" ≡ named minplus_over (codes "over") decimal n → ⊥
inf_alone n h = named_by (λ (t : List ℕ). codes "inf" ≡ t → ⊥) minplus_over (codes "over") decimal n (λ e. cc) (no_decimal (codes "inf") refl n h)

pub IsDelimited-distance : IsDelimited IsWord goes_on distance_text
unfolding distance_text goes_on
IsDelimited-distance = IsDelimited-run IsWord goes_on distance_text (IsRun-named minplus_inf (codes "inf") (named minplus_over (codes "over") decimal) refl (λ e. cc) inf_alone (over_run minplus_over))
