-- Columns and tuples worked out by hand, at the ends of the ranges, of texts and of tuples.
use Rattle.std.specs.Prelude.{◌≡◌, true, false, [], ◌∷◌, replicate}
use Rattle.std.specs.List.{list_any}
use Rattle.std.specs.Ordering.{nat_cmp, is_le}
use Rattle.std.proofs.Common.{refl, inl, inr, arith}
use Rattle.std.proofs.lemmas.Bool.Decides.{nat_tests}
use Rattle.std.specs.declared.cmp.Ordering.TheVariants.{Less, Equal, Greater}
use Rattle.lara_base.specs.Texts.{is_content}
use Rattle.lara_base.specs.declared.text.Text.TheVariants.{Within, Over}
use Rattle.lara_key.specs.declared.key.KeyType.{KeyType}
use Rattle.lara_key.specs.declared.key.KeyType.TheVariants as ty
use Rattle.lara_key.specs.declared.key.KeyVal.{KeyVal}
use Rattle.lara_key.specs.declared.key.KeyVal.TheVariants.{Nat, Text, Flag}
use Rattle.lara_key.specs.Keys.{same_key_type, has_key_type, tuple_has, key_is_over, key_holds_text, key_cmp, tuple_cmp}
use Rattle.lara_key.specs.Precedence.{IsBefore, tuple_cmp-Less}

-- ---- types

one_type : (t : KeyType) → same_key_type t t ≡ true
one_type ty.Nat = refl
one_type ty.Text = refl
one_type ty.Flag = refl

two_types : same_key_type ty.Text ty.Nat ≡ false
two_types = refl

over_is_typed : has_key_type ty.Nat (Nat 18446744073709551615) ≡ true
unfolding has_key_type
over_is_typed = refl

past_over_is_not : has_key_type ty.Nat (Nat 18446744073709551616) ≡ false
unfolding has_key_type
past_over_is_not = refl

over_text_is_typed : has_key_type ty.Text (Text Over) ≡ true
unfolding has_key_type
over_text_is_typed = refl

empty_text_is_typed : has_key_type ty.Text (Text (Within [])) ≡ true
unfolding has_key_type is_content
empty_text_is_typed = refl

no_byte_is_not : has_key_type ty.Text (Text (Within (256 ∷ []))) ≡ false
unfolding has_key_type is_content
no_byte_is_not = refl

true_is_typed : has_key_type ty.Flag (Flag true) ≡ true
unfolding has_key_type
true_is_typed = refl

-- a number is no flag, and no text is a number
number_is_no_flag : has_key_type ty.Flag (Nat 1) ≡ false
unfolding has_key_type
number_is_no_flag = refl

text_is_no_number : has_key_type ty.Nat (Text (Within [])) ≡ false
unfolding has_key_type
text_is_no_number = refl

pair_has : tuple_has (ty.Text ∷ ty.Nat ∷ []) (Text (Within (97 ∷ [])) ∷ Nat 7 ∷ []) ≡ true
unfolding tuple_has has_key_type is_content
pair_has = refl

turned_has_not : tuple_has (ty.Nat ∷ ty.Text ∷ []) (Text (Within (97 ∷ [])) ∷ Nat 7 ∷ []) ≡ false
unfolding tuple_has has_key_type
turned_has_not = refl

short_has_not : tuple_has (ty.Nat ∷ ty.Nat ∷ []) (Nat 0 ∷ []) ≡ false
unfolding tuple_has has_key_type
short_has_not = refl

long_has_not : tuple_has (ty.Nat ∷ []) (Nat 0 ∷ Nat 7 ∷ []) ≡ false
unfolding tuple_has has_key_type
long_has_not = refl

empty_has : tuple_has [] [] ≡ true
unfolding tuple_has
empty_has = refl

-- ---- over

greatest_is_over : key_is_over (Nat 18446744073709551615) ≡ true
unfolding key_is_over
greatest_is_over = refl

one_below_is_not : key_is_over (Nat 18446744073709551614) ≡ false
unfolding key_is_over
one_below_is_not = refl

zero_is_not : key_is_over (Nat 0) ≡ false
unfolding key_is_over
zero_is_not = refl

over_text_is_over : key_is_over (Text Over) ≡ true
unfolding key_is_over
over_text_is_over = refl

longest_text_is_not : key_is_over (Text (Within (replicate 1024 255))) ≡ false
unfolding key_is_over
longest_text_is_not = refl

true_is_not : key_is_over (Flag true) ≡ false
unfolding key_is_over
true_is_not = refl

last_column_over : list_any key_is_over (Nat 3 ∷ Text Over ∷ []) ≡ true
unfolding key_is_over
last_column_over = refl

no_column_over : list_any key_is_over (Text (Within []) ∷ Nat 18446744073709551614 ∷ Flag true ∷ []) ≡ false
unfolding key_is_over
no_column_over = refl

-- no column comes after what is over in its type
over_comes_last : (t : KeyType) (v w : KeyVal) → has_key_type t v ≡ true → has_key_type t w ≡ true → key_is_over w ≡ true → is_le (key_cmp v w) ≡ true
unfolding has_key_type key_is_over
over_comes_last ty.Nat (Nat m) (Nat n) p q o = let e : is_le (nat_cmp m n) ≡ true = grind (arith, nat_tests) in e
over_comes_last ty.Text (Text (Within a)) (Text Over) p q o = refl
over_comes_last ty.Text (Text Over) (Text Over) p q o = refl
over_comes_last ty.Flag v (Flag b) p q o = cc
over_comes_last _ _ _ p q o = cc

-- ---- what a copy takes memory for

number_holds_no_text : key_holds_text (Nat 7) ≡ false
number_holds_no_text = refl

flag_holds_no_text : key_holds_text (Flag true) ≡ false
flag_holds_no_text = refl

byte_is_held : key_holds_text (Text (Within (0 ∷ []))) ≡ true
byte_is_held = refl

empty_text_holds_none : key_holds_text (Text (Within [])) ≡ false
empty_text_holds_none = refl

over_text_holds_none : key_holds_text (Text Over) ≡ false
over_text_holds_none = refl

-- ---- the order of columns

by_value : key_cmp (Nat 9) (Nat 10) ≡ Less
by_value = refl

by_value_turned : key_cmp (Nat 10) (Nat 9) ≡ Greater
by_value_turned = refl

equal_columns : key_cmp (Nat 9) (Nat 9) ≡ Equal
equal_columns = refl

-- `a`, `ab` and `b`
empty_text_first : key_cmp (Text (Within [])) (Text (Within (97 ∷ []))) ≡ Less
empty_text_first = refl

shorter_text_first : key_cmp (Text (Within (97 ∷ []))) (Text (Within (97 ∷ 98 ∷ []))) ≡ Less
shorter_text_first = refl

first_byte_decides : key_cmp (Text (Within (97 ∷ 98 ∷ []))) (Text (Within (98 ∷ []))) ≡ Less
first_byte_decides = refl

first_byte_decides_turned : key_cmp (Text (Within (98 ∷ []))) (Text (Within (97 ∷ 98 ∷ []))) ≡ Greater
first_byte_decides_turned = refl

equal_texts : key_cmp (Text (Within (97 ∷ []))) (Text (Within (97 ∷ []))) ≡ Equal
equal_texts = refl

-- `a`, `a` with a zero byte behind, and `aa`
zero_byte_counts : key_cmp (Text (Within (97 ∷ []))) (Text (Within (97 ∷ 0 ∷ []))) ≡ Less
zero_byte_counts = refl

zero_byte_first : key_cmp (Text (Within (97 ∷ 0 ∷ []))) (Text (Within (97 ∷ 97 ∷ []))) ≡ Less
zero_byte_first = refl

over_text_last : key_cmp (Text (Within (255 ∷ 255 ∷ []))) (Text Over) ≡ Less
over_text_last = refl

false_first : key_cmp (Flag false) (Flag true) ≡ Less
false_first = refl

true_last : key_cmp (Flag true) (Flag false) ≡ Greater
true_last = refl

equal_flags : key_cmp (Flag true) (Flag true) ≡ Equal
equal_flags = refl

-- of two types: numbers, texts, flags
number_before_text : key_cmp (Nat 18446744073709551615) (Text (Within [])) ≡ Less
number_before_text = refl

text_before_flag : key_cmp (Text Over) (Flag false) ≡ Less
text_before_flag = refl

flag_after_number : key_cmp (Flag false) (Nat 9) ≡ Greater
flag_after_number = refl

-- ---- the order of tuples

prefix_first : tuple_cmp (Nat 5 ∷ []) (Nat 5 ∷ Nat 0 ∷ []) ≡ Less
unfolding tuple_cmp
prefix_first = refl

extension_last : tuple_cmp (Nat 5 ∷ Nat 0 ∷ []) (Nat 5 ∷ []) ≡ Greater
unfolding tuple_cmp
extension_last = refl

empty_first : tuple_cmp [] (Nat 0 ∷ []) ≡ Less
unfolding tuple_cmp
empty_first = refl

equal_tuples : tuple_cmp (Nat 5 ∷ Nat 7 ∷ []) (Nat 5 ∷ Nat 7 ∷ []) ≡ Equal
unfolding tuple_cmp
equal_tuples = refl

empty_tuples : tuple_cmp [] [] ≡ Equal
unfolding tuple_cmp
empty_tuples = refl

first_column_decides : tuple_cmp (Nat 1 ∷ Nat 9 ∷ []) (Nat 2 ∷ []) ≡ Less
unfolding tuple_cmp
first_column_decides = refl

second_column_decides : tuple_cmp (Nat 1 ∷ Nat 10 ∷ []) (Nat 1 ∷ Nat 9 ∷ []) ≡ Greater
unfolding tuple_cmp
second_column_decides = refl

-- a text ends before the next column begins: `a` and 9, `ab` and 1
text_decides : tuple_cmp (Text (Within (97 ∷ [])) ∷ Nat 9 ∷ []) (Text (Within (97 ∷ 98 ∷ [])) ∷ Nat 1 ∷ []) ≡ Less
unfolding tuple_cmp
text_decides = refl

number_behind_text_decides : tuple_cmp (Text (Within (97 ∷ [])) ∷ Nat 9 ∷ []) (Text (Within (97 ∷ [])) ∷ Nat 1 ∷ []) ≡ Greater
unfolding tuple_cmp
number_behind_text_decides = refl

text_before_its_extension : tuple_cmp (Text Over ∷ []) (Text Over ∷ Flag false ∷ []) ≡ Less
unfolding tuple_cmp
text_before_its_extension = refl

-- a prefix stands before, as is read off the columns
prefix_before : IsBefore (Nat 5 ∷ []) (Nat 5 ∷ Nat 0 ∷ [])
prefix_before = inl (record { next = Nat 0; rest = []; is = refl })

lesser_before : IsBefore (Text (Within []) ∷ Nat 7 ∷ []) (Text (Within []) ∷ Nat 8 ∷ [])
lesser_before = inr (record { front = Text (Within []) ∷ []; lesser = Nat 7; greater = Nat 8; lesser_rest = []; greater_rest = []; left = refl; right = refl; less = refl })

equal_not_before : IsBefore (Nat 5 ∷ []) (Nat 5 ∷ []) → ⊥
unfolding tuple_cmp
equal_not_before h = let e = (tuple_cmp-Less (Nat 5 ∷ []) (Nat 5 ∷ [])).1 h in cc
