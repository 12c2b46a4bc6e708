-- Latest texts worked out by hand, at the empty text and at `over`.
use Rattle.std.specs.Prelude.{◌≡◌, true, false, [], ◌∷◌}
use Rattle.std.proofs.Common.{refl}
use Rattle.lara_base.specs.declared.text.Text.TheVariants.{Within, Over}
use Rattle.lara_semiring.specs.Lasts.{last_zero, last_plus, last_times, last_is_zero, last_is_over}

-- `a`, `ab` and `b`
later : last_plus (Within (97 ∷ 98 ∷ [])) (Within (98 ∷ [])) ≡ Within (98 ∷ [])
later = refl

later_first : last_plus (Within (98 ∷ [])) (Within (97 ∷ 98 ∷ [])) ≡ Within (98 ∷ [])
later_first = refl

longer : last_plus (Within (97 ∷ 98 ∷ [])) (Within (97 ∷ [])) ≡ Within (97 ∷ 98 ∷ [])
longer = refl

empty_adds_nothing : last_plus last_zero (Within (97 ∷ [])) ≡ Within (97 ∷ [])
empty_adds_nothing = refl

over_is_latest : last_plus (Within (255 ∷ 255 ∷ [])) Over ≡ Over
over_is_latest = refl

earlier : last_times (Within (97 ∷ 98 ∷ [])) (Within (98 ∷ [])) ≡ Within (97 ∷ 98 ∷ [])
earlier = refl

over_is_one : last_times Over (Within (98 ∷ [])) ≡ Within (98 ∷ [])
over_is_one = refl

empty_annihilates : last_times Over last_zero ≡ last_zero
empty_annihilates = refl

empty_is_zero : last_zero ≡ Within []
empty_is_zero = refl

zero_is_zero : last_is_zero (Within []) ≡ true
zero_is_zero = refl

byte_is_not_zero : last_is_zero (Within (0 ∷ [])) ≡ false
byte_is_not_zero = refl

over_is_not_zero : last_is_zero Over ≡ false
over_is_not_zero = refl

over_is_over : last_is_over Over ≡ true
over_is_over = refl

text_is_not_over : last_is_over (Within (255 ∷ [])) ≡ false
text_is_not_over = refl
