-- Paths worked out by hand, at the empty text, at 1,024 bytes, at `over` and at none.
use Rattle.std.specs.Prelude.{◌≡◌, true, false, [], ◌∷◌, replicate}
use Rattle.std.proofs.Common.{refl}
use Rattle.lara_base.specs.Texts.{is_content}
use Rattle.lara_semiring.specs.declared.path.PathText.TheVariants.{Within, Over, Absent}
use Rattle.lara_semiring.specs.Paths.{path_plus, path_times, is_path, path_is_absent, path_is_over}

-- ---- sums: `b` comes before `ab`, and `ab` before `ac`

shorter_first : path_plus (Within (97 ∷ 98 ∷ [])) (Within (98 ∷ [])) ≡ Within (98 ∷ [])
shorter_first = refl

bytes_next : path_plus (Within (97 ∷ 99 ∷ [])) (Within (97 ∷ 98 ∷ [])) ≡ Within (97 ∷ 98 ∷ [])
bytes_next = refl

empty_is_least : path_plus (Within []) (Within (97 ∷ [])) ≡ Within []
empty_is_least = refl

text_before_over : path_plus Over (Within (97 ∷ [])) ≡ Within (97 ∷ [])
text_before_over = refl

over_before_none : path_plus Absent Over ≡ Over
over_before_none = refl

none_adds_nothing : path_plus Absent (Within (97 ∷ [])) ≡ Within (97 ∷ [])
none_adds_nothing = refl

two_nones : path_plus Absent Absent ≡ Absent
two_nones = refl

-- ---- products: `ab` and `c` in their order

end_to_end : path_times (Within (97 ∷ 98 ∷ [])) (Within (99 ∷ [])) ≡ Within (97 ∷ 98 ∷ 99 ∷ [])
end_to_end = refl

other_order : path_times (Within (99 ∷ [])) (Within (97 ∷ 98 ∷ [])) ≡ Within (99 ∷ 97 ∷ 98 ∷ [])
other_order = refl

empty_is_one : path_times (Within []) (Within (99 ∷ [])) ≡ Within (99 ∷ [])
empty_is_one = refl

most_bytes : path_times (Within (replicate 1023 97)) (Within (97 ∷ [])) ≡ Within (replicate 1024 97)
most_bytes = refl

one_more : path_times (Within (replicate 1000 97)) (Within (replicate 25 97)) ≡ Over
one_more = refl

over_goes_on : path_times Over (Within (97 ∷ [])) ≡ Over
over_goes_on = refl

over_behind : path_times (Within []) Over ≡ Over
over_behind = refl

none_annihilates : path_times Absent Over ≡ Absent
none_annihilates = refl

none_behind : path_times Over Absent ≡ Absent
none_behind = refl

none_behind_text : path_times (Within (97 ∷ [])) Absent ≡ Absent
none_behind_text = refl

-- ---- tests

text_is_path : is_path (Within (replicate 1024 97)) ≡ true
unfolding is_content
text_is_path = refl

longer_is_not : is_path (Within (replicate 1025 97)) ≡ false
unfolding is_content
longer_is_not = refl

none_is_absent : path_is_absent Absent ≡ true
none_is_absent = refl

empty_is_not : path_is_absent (Within []) ≡ false
empty_is_not = refl

over_is_not : path_is_absent Over ≡ false
over_is_not = refl

over_is_over : path_is_over Over ≡ true
over_is_over = refl

none_is_not_over : path_is_over Absent ≡ false
none_is_not_over = refl

text_is_not_over : path_is_over (Within (255 ∷ [])) ≡ false
text_is_not_over = refl
