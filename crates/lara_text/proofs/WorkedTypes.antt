-- Texts of values and keys of each type, byte by byte, worked out by hand.
use Rattle.std.specs.Prelude.{◌≡◌, true, false, [], ◌∷◌, ◌++◌, codes}
use Rattle.std.proofs.Common.{refl}
use Rattle.std.specs.Fmt.{digits}
use Rattle.lara_base.specs.declared.text.Text.TheVariants as text
use Rattle.lara_semiring.specs.declared.path.PathText.TheVariants as path
use Rattle.lara_semiring.specs.declared.value.ValType.TheVariants as val_type
use Rattle.lara_semiring.specs.declared.value.Value.TheVariants as value
use Rattle.lara_key.specs.declared.key.KeyType.TheVariants as key_type
use Rattle.lara_key.specs.declared.key.KeyVal.TheVariants as key
use Rattle.lara_text.specs.Quotes.{quoted_byte, quoted_text}
use Rattle.lara_text.specs.TableTexts.{number_text, distance_text, flag_text, short_text, path_text, key_text, value_text, key_type_text, val_type_text}

-- ---- the words of types

nat_word : key_type_text key_type.Nat ≡ codes "nat"
unfolding key_type_text
nat_word = refl

text_word : key_type_text key_type.Text ≡ codes "text"
unfolding key_type_text
text_word = refl

flag_word : key_type_text key_type.Flag ≡ codes "flag"
unfolding key_type_text
flag_word = refl

minplus_word : val_type_text val_type.MinPlus ≡ codes "minplus"
unfolding val_type_text
minplus_word = refl

maxmin_word : val_type_text val_type.MaxMin ≡ codes "maxmin"
unfolding val_type_text
maxmin_word = refl

flags_word : val_type_text val_type.Flag ≡ codes "flag"
unfolding val_type_text
flags_word = refl

last_word : val_type_text val_type.Last ≡ codes "last"
unfolding val_type_text
last_word = refl

path_word : val_type_text val_type.Path ≡ codes "path"
unfolding val_type_text
path_word = refl

-- ---- numbers, distances and flags

distance : value_text (value.MinPlus 18446744073709551613) ≡ codes "18446744073709551613"
unfolding value_text distance_text digits
distance = refl

distance_over : value_text (value.MinPlus 18446744073709551614) ≡ codes "over"
unfolding value_text distance_text
distance_over = refl

no_way : value_text (value.MinPlus 18446744073709551615) ≡ codes "inf"
unfolding value_text distance_text
no_way = refl

width : value_text (value.MaxMin 9) ≡ codes "9"
unfolding value_text number_text digits
width = refl

width_over : value_text (value.MaxMin 18446744073709551615) ≡ codes "over"
unfolding value_text number_text
width_over = refl

set : value_text (value.Flag true) ≡ codes "true"
unfolding value_text flag_text
set = refl

not_set : key_text (key.Flag false) ≡ codes "false"
unfolding key_text flag_text
not_set = refl

-- ---- texts and paths

-- a, the byte 0, `"`, `\`, the byte 31, the byte 127, the byte 255
escapes : key_text (key.Text (text.Within (97 ∷ 0 ∷ 34 ∷ 92 ∷ 31 ∷ 127 ∷ 255 ∷ []))) ≡ codes "\"a\\x00\\\"\\\\\\x1f\\x7f" ++ 255 ∷ 34 ∷ []
unfolding key_text short_text quoted_text quoted_byte
escapes = refl

empty_text : value_text (value.Last (text.Within [])) ≡ codes "\"\""
unfolding value_text short_text quoted_text
empty_text = refl

text_over : value_text (value.Last text.Over) ≡ codes "over"
unfolding value_text short_text
text_over = refl

key_over : key_text (key.Text text.Over) ≡ codes "over"
unfolding key_text short_text
key_over = refl

route : value_text (value.Path (path.Within (97 ∷ 62 ∷ 98 ∷ []))) ≡ codes "\"a>b\""
unfolding value_text path_text quoted_text quoted_byte
route = refl

path_over : value_text (value.Path path.Over) ≡ codes "over"
unfolding value_text path_text
path_over = refl

no_path : value_text (value.Path path.Absent) ≡ codes "none"
unfolding value_text path_text
no_path = refl
