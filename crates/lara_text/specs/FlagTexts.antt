-- Flags as texts: each is told from what stands behind it.
use Rattle.std.specs.Prelude.{◌≡◌, ℕ, Bool, true, false, List, [], ◌∷◌, ◌++◌}
use Rattle.std.proofs.Common.{refl}
use Rattle.std.specs.List.{list_all}
use Rattle.lara_base.specs.Names.{goes_on}
use Rattle.lara_text.specs.TableTexts.{flag_text}
use Rattle.lara_text.specs.Delimited.{IsDelimited, IsDelimited-run, firsts_differ}

-- any flag
abbrev pub IsFlag : Bool → Type 0
IsFlag b = Unit {0}

flag_all : (b : Bool) → list_all goes_on (flag_text b) ≡ true
unfolding flag_text goes_on
flag_all true = refl
flag_all false = refl

flag_some : (b : Bool) → flag_text b ≡ [] → ⊥
unfolding flag_text
flag_some true e = cc
flag_some false e = cc

flag_told : (a b : Bool) → flag_text a ≡ flag_text b → a ≡ b
unfolding flag_text
flag_told true true e = refl
flag_told true false e = absurd (firsts_differ 116 102 refl e)
flag_told false true e = absurd (firsts_differ 102 116 refl e)
flag_told false false e = refl

pub IsDelimited-flag : IsDelimited IsFlag goes_on flag_text
IsDelimited-flag = IsDelimited-run IsFlag goes_on flag_text (record { all = λ b p. flag_all b; some = λ b p. flag_some b; told = λ a b p q. flag_told a b })

-- no flag begins as the end of a table does
pub flag_not_end : (b : Bool) (r s : List ℕ) → flag_text b ++ r ≡ 101 ∷ s → ⊥
unfolding flag_text
flag_not_end true r s e = firsts_differ 116 101 refl e
flag_not_end false r s e = firsts_differ 102 101 refl e
