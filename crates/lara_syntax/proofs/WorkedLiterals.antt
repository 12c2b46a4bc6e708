-- Literals in columns of each type, worked out by hand: which are of the kind, which are in range, and what they stand for.
use Rattle.std.specs.Prelude.{◌≡◌, true, false, [], ◌∷◌}
use Rattle.std.proofs.Common.{refl}
use Rattle.lara_base.specs.declared.text.Text.TheVariants as text
use Rattle.lara_key.specs.declared.key.KeyType.TheVariants as key_type
use Rattle.lara_key.specs.declared.key.KeyVal.TheVariants as key
use Rattle.lara_semiring.specs.declared.path.PathText.TheVariants as path
use Rattle.lara_semiring.specs.declared.value.ValType.TheVariants as val_type
use Rattle.lara_semiring.specs.declared.value.Value.TheVariants as value
use Rattle.lara_semiring.specs.Values.{value_zero}
use Rattle.lara_syntax.specs.declared.ast.AstValue.TheVariants.{Number, Text, Flag, Inf, None}
use Rattle.lara_syntax.specs.Literals.{is_key_lit, is_val_lit, is_key_in_range, is_val_in_range, key_value, row_value}

-- ---- kinds

number_is_nat : is_key_lit key_type.Nat (Number 1) ≡ true
number_is_nat = refl

number_is_no_text : is_key_lit key_type.Text (Number 1) ≡ false
number_is_no_text = refl

flag_is_no_nat : is_key_lit key_type.Nat (Flag true) ≡ false
flag_is_no_nat = refl

text_is_no_flag : is_key_lit key_type.Flag (Text []) ≡ false
text_is_no_flag = refl

inf_is_a_distance : is_val_lit val_type.MinPlus Inf ≡ true
inf_is_a_distance = refl

inf_is_no_width : is_val_lit val_type.MaxMin Inf ≡ false
inf_is_no_width = refl

none_is_a_path : is_val_lit val_type.Path None ≡ true
none_is_a_path = refl

none_is_no_distance : is_val_lit val_type.MinPlus None ≡ false
none_is_no_distance = refl

none_is_no_text : is_val_lit val_type.Last None ≡ false
none_is_no_text = refl

number_is_no_flag : is_val_lit val_type.Flag (Number 1) ≡ false
number_is_no_flag = refl

-- ---- ranges, on both sides

last_nat : is_key_in_range key_type.Nat (Number 18446744073709551614) ≡ true
last_nat = refl

past_nat : is_key_in_range key_type.Nat (Number 18446744073709551615) ≡ false
past_nat = refl

last_count : is_val_in_range val_type.Count (Number 18446744073709551614) ≡ true
last_count = refl

past_count : is_val_in_range val_type.Count (Number 18446744073709551615) ≡ false
past_count = refl

last_distance : is_val_in_range val_type.MinPlus (Number 18446744073709551613) ≡ true
last_distance = refl

past_distance : is_val_in_range val_type.MinPlus (Number 18446744073709551614) ≡ false
past_distance = refl

last_width : is_val_in_range val_type.MaxMin (Number 18446744073709551614) ≡ true
last_width = refl

past_width : is_val_in_range val_type.MaxMin (Number 18446744073709551615) ≡ false
past_width = refl

-- ---- what they stand for

nat_key : key_value key_type.Nat (Number 7) ≡ key.Nat 7
nat_key = refl

text_key : key_value key_type.Text (Text (97 ∷ [])) ≡ key.Text (text.Within (97 ∷ []))
text_key = refl

flag_key : key_value key_type.Flag (Flag true) ≡ key.Flag true
flag_key = refl

count_value : row_value val_type.Count (Number 7) ≡ value.Count 7
count_value = refl

distance_value : row_value val_type.MinPlus (Number 7) ≡ value.MinPlus 7
distance_value = refl

width_value : row_value val_type.MaxMin (Number 7) ≡ value.MaxMin 7
width_value = refl

flag_value : row_value val_type.Flag (Flag false) ≡ value.Flag false
flag_value = refl

last_value : row_value val_type.Last (Text (97 ∷ [])) ≡ value.Last (text.Within (97 ∷ []))
last_value = refl

path_value : row_value val_type.Path (Text (97 ∷ [])) ≡ value.Path (path.Within (97 ∷ []))
path_value = refl

-- `inf` and `none` write the zeros that no table keeps
inf_is_zero : row_value val_type.MinPlus Inf ≡ value_zero val_type.MinPlus
unfolding value_zero
inf_is_zero = refl

none_is_zero : row_value val_type.Path None ≡ value_zero val_type.Path
unfolding value_zero
none_is_zero = refl
