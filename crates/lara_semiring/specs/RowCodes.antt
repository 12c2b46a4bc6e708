-- The codes of values and of rows.
use Rattle.std.specs.Prelude.{ℕ, List, [], ◌∷◌}
use Rattle.std.specs.List.{flat_map}
use Rattle.std.specs.Int.{w64, to_be_bytes}
use Rattle.lara_fields.specs.Flags.{flag_code}
use Rattle.lara_fields.specs.TextCodes.{escaped, text_code}
use Rattle.lara_semiring.specs.declared.path.PathText.{PathText}
use Rattle.lara_semiring.specs.declared.path.PathText.TheVariants.{Within, Over, Absent}
use Rattle.lara_semiring.specs.declared.value.Value.{Value}
use Rattle.lara_semiring.specs.declared.value.Value.TheVariants as value

-- 00 and the text's code, or 01 for `over`, or 02 for none
abbrev pub path_code : PathText → List ℕ
path_code (Within c) = 0 ∷ escaped c
path_code Over = 1 ∷ []
path_code Absent = 2 ∷ []

-- the code of the value: a number in eight bytes with the highest first, a flag in one byte, a text as in keys, a path
unfoldable pub value_code : Value → List ℕ
value_code (value.Count n) = to_be_bytes w64 n
value_code (value.MinPlus n) = to_be_bytes w64 n
value_code (value.MaxMin n) = to_be_bytes w64 n
value_code (value.Flag b) = flag_code b
value_code (value.Last t) = text_code t
value_code (value.Path p) = path_code p

-- the columns' codes one after the other
abbrev pub row_code : List Value → List ℕ
row_code = flat_map value_code
