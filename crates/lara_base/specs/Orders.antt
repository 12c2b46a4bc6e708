-- Orders by a rank: items that compare as lists of numbers do.
use Rattle.std.specs.Prelude.{◌≡◌, ℕ, List}
use Rattle.std.proofs.Common.{sym, ◌∙◌, subst}
use Rattle.std.specs.declared.cmp.Ordering.{Ordering}
use Rattle.std.specs.Ordering.{nat_cmp}
use Rattle.std.specs.Cmp.{IsTotalOrder}
use Rattle.std.specs.FinMap.{IsAntisymmetric, slice_cmp-IsAntisymmetric, nat_cmp-IsAntisymmetric}
use Rattle.std.specs.Cmp.Lexicographic.{slice_cmp}
use Rattle.std.proofs.lemmas.Cmp.{on_total, nat_list_cmp_total}

-- R compares items by their ranks, which are lists of numbers that no two items share
pub record IsRanked {K : Type 0} (R : K → K → Ordering) (rank : K → List ℕ) : Type 0 where
  pub agrees : (x y : K) → R x y ≡ slice_cmp nat_cmp (rank x) (rank y)
  pub apart : (x y : K) → rank x ≡ rank y → x ≡ y

pub ranked_total : {K : Type 0} {R : K → K → Ordering} {rank : K → List ℕ} → IsRanked R rank → IsTotalOrder R
ranked_total {K} {R} {rank} h =
    let same : (λ (x y : K). slice_cmp nat_cmp (rank x) (rank y)) ≡ R = λ i x y. sym (h.agrees x y) i in
    subst (λ (S : K → K → Ordering). IsTotalOrder S) same (on_total rank nat_list_cmp_total)

pub ranked_antisymmetric : {K : Type 0} {R : K → K → Ordering} {rank : K → List ℕ} → IsRanked R rank → IsAntisymmetric R
ranked_antisymmetric h x y e = h.apart x y (slice_cmp-IsAntisymmetric nat_cmp-IsAntisymmetric _ _ (sym (h.agrees x y) ∙ e))
