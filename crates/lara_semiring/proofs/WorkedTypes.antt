-- Values of each type worked out by hand: which are of the type, its identities, its sums and products, and what is asked
-- of them.
use Rattle.std.specs.Prelude.{◌≡◌, true, false, [], ◌∷◌}
use Rattle.std.proofs.Common.{refl}
use Rattle.lara_base.specs.Texts.{is_content}
use Rattle.lara_base.specs.declared.text.Text.TheVariants as text
use Rattle.lara_semiring.specs.declared.path.PathText.TheVariants as path
use Rattle.lara_semiring.specs.declared.value.ValType.TheVariants as ty
use Rattle.lara_semiring.specs.declared.value.Value.TheVariants.{Count, MinPlus, MaxMin, Flag, Last, Path}
use Rattle.lara_semiring.specs.ValueSemirings.{holds_text}
use Rattle.lara_semiring.specs.Values.{same_val_type, has_texts, commutes, has_type, value_zero, value_one, value_plus, value_times, value_is_zero, value_is_over}

-- ---- the types are apart

two_types : same_val_type ty.MinPlus ty.MaxMin ≡ false
two_types = refl

same_text_types : same_val_type ty.Last ty.Path ≡ false
same_text_types = refl

count_is_no_distance : has_type ty.MinPlus (Count 1) ≡ false
unfolding has_type
count_is_no_distance = refl

distance_is_no_width : has_type ty.MaxMin (MinPlus 1) ≡ false
unfolding has_type
distance_is_no_width = refl

text_is_no_path : has_type ty.Path (Last (text.Within [])) ≡ false
unfolding has_type
text_is_no_path = refl

-- ---- what is known of a type

texts_hold_texts : has_texts ty.Last ≡ true
texts_hold_texts = refl

flags_hold_none : has_texts ty.Flag ≡ false
flags_hold_none = refl

empty_holds_none : holds_text (Path (path.Within [])) ≡ false
empty_holds_none = refl

a_holds_a_text : holds_text (Last (text.Within (97 ∷ []))) ≡ true
a_holds_a_text = refl

paths_do_not_commute : commutes ty.Path ≡ false
paths_do_not_commute = refl

texts_commute : commutes ty.Last ≡ true
texts_commute = refl

-- ---- minplus: the lesser, and the sum

no_way : value_zero ty.MinPlus ≡ MinPlus 18446744073709551615
unfolding value_zero
no_way = refl

no_step : value_one ty.MinPlus ≡ MinPlus 0
unfolding value_one
no_step = refl

shorter : value_plus ty.MinPlus (MinPlus 7) (MinPlus 6) ≡ MinPlus 6
unfolding value_plus
shorter = refl

way_and_none : value_plus ty.MinPlus (MinPlus 18446744073709551615) (MinPlus 18446744073709551614) ≡ MinPlus 18446744073709551614
unfolding value_plus
way_and_none = refl

step_by_step : value_times ty.MinPlus (MinPlus 2) (MinPlus 4) ≡ MinPlus 6
unfolding value_times
step_by_step = refl

longest : value_times ty.MinPlus (MinPlus 18446744073709551612) (MinPlus 1) ≡ MinPlus 18446744073709551613
unfolding value_times
longest = refl

too_long : value_times ty.MinPlus (MinPlus 18446744073709551613) (MinPlus 1) ≡ MinPlus 18446744073709551614
unfolding value_times
too_long = refl

way_then_none : value_times ty.MinPlus (MinPlus 3) (MinPlus 18446744073709551615) ≡ MinPlus 18446744073709551615
unfolding value_times
way_then_none = refl

none_is_zero : value_is_zero ty.MinPlus (MinPlus 18446744073709551615) ≡ true
unfolding value_is_zero
none_is_zero = refl

no_step_is_some : value_is_zero ty.MinPlus (MinPlus 0) ≡ false
unfolding value_is_zero
no_step_is_some = refl

too_long_is_over : value_is_over ty.MinPlus (MinPlus 18446744073709551614) ≡ true
unfolding value_is_over
too_long_is_over = refl

none_is_not_over : value_is_over ty.MinPlus (MinPlus 18446744073709551615) ≡ false
unfolding value_is_over
none_is_not_over = refl

-- ---- maxmin: the greater, and the lesser

no_width : value_zero ty.MaxMin ≡ MaxMin 0
unfolding value_zero
no_width = refl

all_width : value_one ty.MaxMin ≡ MaxMin 18446744073709551615
unfolding value_one
all_width = refl

wider : value_plus ty.MaxMin (MaxMin 7) (MaxMin 6) ≡ MaxMin 7
unfolding value_plus
wider = refl

narrower : value_times ty.MaxMin (MaxMin 7) (MaxMin 6) ≡ MaxMin 6
unfolding value_times
narrower = refl

widest_is_over : value_is_over ty.MaxMin (MaxMin 18446744073709551615) ≡ true
unfolding value_is_over
widest_is_over = refl

-- ---- flag: or, and

not_set : value_zero ty.Flag ≡ Flag false
unfolding value_zero
not_set = refl

is_set : value_one ty.Flag ≡ Flag true
unfolding value_one
is_set = refl

one_is_set : value_plus ty.Flag (Flag false) (Flag true) ≡ Flag true
unfolding value_plus
one_is_set = refl

not_both : value_times ty.Flag (Flag false) (Flag true) ≡ Flag false
unfolding value_times
not_both = refl

no_flag_is_over : value_is_over ty.Flag (Flag true) ≡ false
unfolding value_is_over
no_flag_is_over = refl

-- ---- last: the later, and the earlier

no_text : value_zero ty.Last ≡ Last (text.Within [])
unfolding value_zero
no_text = refl

over_is_one : value_one ty.Last ≡ Last text.Over
unfolding value_one
over_is_one = refl

later : value_plus ty.Last (Last (text.Within (97 ∷ 98 ∷ []))) (Last (text.Within (98 ∷ []))) ≡ Last (text.Within (98 ∷ []))
unfolding value_plus is_content
later = refl

earlier : value_times ty.Last (Last (text.Within (97 ∷ 98 ∷ []))) (Last (text.Within (98 ∷ []))) ≡ Last (text.Within (97 ∷ 98 ∷ []))
unfolding value_times is_content
earlier = refl

text_is_over : value_is_over ty.Last (Last text.Over) ≡ true
unfolding value_is_over
text_is_over = refl

-- ---- path: the lesser, shorter ones first, and one behind the other

no_path : value_zero ty.Path ≡ Path path.Absent
unfolding value_zero
no_path = refl

empty_path : value_one ty.Path ≡ Path (path.Within [])
unfolding value_one
empty_path = refl

shorter_first : value_plus ty.Path (Path (path.Within (97 ∷ 98 ∷ []))) (Path (path.Within (99 ∷ []))) ≡ Path (path.Within (99 ∷ []))
unfolding value_plus is_content
shorter_first = refl

end_to_end : value_times ty.Path (Path (path.Within (97 ∷ []))) (Path (path.Within (98 ∷ []))) ≡ Path (path.Within (97 ∷ 98 ∷ []))
unfolding value_times is_content
end_to_end = refl

path_and_none : value_plus ty.Path (Path path.Over) (Path path.Absent) ≡ Path path.Over
unfolding value_plus
path_and_none = refl

path_then_none : value_times ty.Path (Path path.Over) (Path path.Absent) ≡ Path path.Absent
unfolding value_times
path_then_none = refl

path_is_over : value_is_over ty.Path (Path path.Over) ≡ true
unfolding value_is_over
path_is_over = refl
