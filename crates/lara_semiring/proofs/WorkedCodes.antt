-- Codes of rows worked out by hand, and where a reading stops.
use Rattle.std.specs.Prelude.{◌≡◌, true, [], ◌∷◌, ◌++◌, replicate, Ok, Err}
use Rattle.std.proofs.Common.{refl}
use Rattle.lara_base.specs.declared.text.Text.TheVariants as text
use Rattle.lara_fields.specs.Fields.{each}
use Rattle.lara_fields.specs.Flags.{flag_at}
use Rattle.lara_fields.specs.TextCodes.{escaped, over_text, text_bytes, unescaped, text_of}
use Rattle.lara_semiring.specs.declared.path.PathText.TheVariants as path
use Rattle.lara_semiring.specs.declared.value.ValType.TheVariants as ty
use Rattle.lara_semiring.specs.declared.value.Value.TheVariants.{Count, MinPlus, MaxMin, Flag, Last, Path}
use Rattle.lara_semiring.specs.RowCodes.{value_code, row_code}
use Rattle.lara_semiring.specs.RowReading.{path_parts, value_at, row_in}

code_of_numbers : row_code (Count 3 ∷ MinPlus 18446744073709551615 ∷ MaxMin 256 ∷ []) ≡ 0 ∷ 0 ∷ 0 ∷ 0 ∷ 0 ∷ 0 ∷ 0 ∷ 3 ∷ 255 ∷ 255 ∷ 255 ∷ 255 ∷ 255 ∷ 255 ∷ 255 ∷ 255 ∷ 0 ∷ 0 ∷ 0 ∷ 0 ∷ 0 ∷ 0 ∷ 1 ∷ 0 ∷ []
unfolding value_code
code_of_numbers = refl

code_of_texts : row_code (Flag true ∷ Last (text.Within (97 ∷ 0 ∷ [])) ∷ Path (path.Within (98 ∷ [])) ∷ Path path.Over ∷ Path path.Absent ∷ []) ≡ 1 ∷ 97 ∷ 0 ∷ 255 ∷ 0 ∷ 1 ∷ 0 ∷ 98 ∷ 0 ∷ 1 ∷ 1 ∷ 2 ∷ []
unfolding value_code escaped text_bytes
code_of_texts = refl

-- `over` is 1,025 bytes FF as a text, and one byte as a path
code_of_over : row_code (Last text.Over ∷ []) ≡ replicate 1025 255 ++ 0 ∷ 1 ∷ []
unfolding value_code escaped text_bytes over_text
code_of_over = refl

texts_read : row_in (ty.Flag ∷ ty.Last ∷ ty.Path ∷ ty.Path ∷ ty.Path ∷ []) (1 ∷ 97 ∷ 0 ∷ 255 ∷ 0 ∷ 1 ∷ 0 ∷ 98 ∷ 0 ∷ 1 ∷ 1 ∷ 2 ∷ []) ≡ Ok (Flag true ∷ Last (text.Within (97 ∷ 0 ∷ [])) ∷ Path (path.Within (98 ∷ [])) ∷ Path path.Over ∷ Path path.Absent ∷ [])
unfolding value_at each flag_at unescaped text_of path_parts
texts_read = refl

-- the path at place 1 has a wrong first byte, or a text with no end: both stop where the path begins
wrong_path : row_in (ty.Flag ∷ ty.Path ∷ []) (0 ∷ 3 ∷ 0 ∷ 1 ∷ []) ≡ Err 3
unfolding value_at each flag_at path_parts
wrong_path = refl

cut_path : row_in (ty.Flag ∷ ty.Path ∷ []) (0 ∷ 0 ∷ 97 ∷ 0 ∷ []) ≡ Err 3
unfolding value_at each flag_at unescaped path_parts
cut_path = refl

-- the text that stands for the longer ones is no path
over_path : row_in (ty.Path ∷ []) (0 ∷ replicate 1025 255 ++ 0 ∷ 1 ∷ []) ≡ Err 1028
unfolding value_at each unescaped text_of path_parts
over_path = refl

left_over : row_in (ty.Path ∷ []) (2 ∷ 0 ∷ []) ≡ Err 1
unfolding value_at each path_parts
left_over = refl
