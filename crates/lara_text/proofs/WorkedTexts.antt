-- Texts of small tables, byte by byte, worked out by hand.
use Rattle.std.specs.Prelude.{◌≡◌, true, false, [], ◌∷◌, ◌++◌, codes}
use Rattle.std.proofs.Common.{refl}
use Rattle.std.specs.Fmt.{digits}
use Rattle.lara_base.specs.declared.text.Text.TheVariants as text
use Rattle.lara_semiring.specs.declared.value.ValType.TheVariants as val_type
use Rattle.lara_semiring.specs.declared.value.Value.TheVariants as value
use Rattle.lara_semiring.specs.declared.value.Value.TheVariants.{Count}
use Rattle.lara_semiring.specs.declared.path.PathText.TheVariants as path
use Rattle.lara_semiring.specs.Values.{value_zero, value_plus, value_is_zero}
use Rattle.lara_semiring.specs.Rows.{row_zero, row_plus, row_is_zero}
use Rattle.lara_key.specs.Keys.{tuple_cmp}
use Rattle.lara_key.specs.declared.key.KeyType.TheVariants as key_type
use Rattle.lara_key.specs.declared.key.KeyVal.TheVariants as column
use Rattle.lara_key.specs.declared.key.KeyVal.TheVariants.{Nat}
use Rattle.lara_data.specs.declared.table_type.KeyCol.{KeyCol}
use Rattle.lara_data.specs.declared.table_type.ValCol.{ValCol}
use Rattle.lara_data.specs.TableTypes.{Columns}
use Rattle.lara_data.specs.KeyedTables.{same_key, before, at, key_put, key_set, at_keys, total}
use Rattle.lara_data.specs.Names.{Name, same_name, read, cut}
use Rattle.lara_data.specs.Tables.{Entries, recut}
use Rattle.lara_data.specs.Algebra.{key_col, key_cols, agg, ordered}
use Rattle.lara_text.specs.Quotes.{quoted_byte, quoted_text}
use Rattle.lara_text.specs.TableTexts.{number_text, distance_text, flag_text, short_text, path_text, key_text, value_text, key_type_text, val_type_text, key_column_text, val_column_text, key_columns_text, head_text, cell_text, end_text, entry_line, table_text}

key : Name → KeyCol
key n = record { name = n; ty = key_type.Nat }

val : Name → ValCol
val n = record { name = n; ty = val_type.Count }

-- two key columns and a value column
pairs : Columns
pairs = record { keys = key (codes "i") ∷ key (codes "j") ∷ []; vals = val (codes "v") ∷ [] }

-- one key column and a value column
singles : Columns
singles = record { keys = key (codes "i") ∷ []; vals = val (codes "v") ∷ [] }

-- no key column
sums : Columns
sums = record { keys = []; vals = val (codes "v") ∷ [] }

-- ---- heads

one_key : head_text (codes "T") singles (codes "i" ∷ []) ≡ codes "T[i: nat : v: count]"
unfolding key val singles same_name key_col key_cols key_type_text val_type_text key_column_text val_column_text key_columns_text head_text
one_key = refl

-- a comma and a space between columns, in the other order
other_order : head_text (codes "C") pairs (codes "j" ∷ codes "i" ∷ []) ≡ codes "C[j: nat, i: nat : v: count]"
unfolding key val pairs same_name key_col key_cols key_type_text val_type_text key_column_text val_column_text key_columns_text head_text
other_order = refl

no_key : head_text (codes "S") sums [] ≡ codes "S[: v: count]"
unfolding val sums same_name key_col key_cols val_type_text val_column_text key_columns_text head_text
no_key = refl

two_values : head_text (codes "T") (record { keys = key (codes "i") ∷ []; vals = val (codes "d") ∷ val (codes "e") ∷ [] }) (codes "i" ∷ []) ≡ codes "T[i: nat : d: count, e: count]"
unfolding key val same_name key_col key_cols key_type_text val_type_text key_column_text val_column_text key_columns_text head_text
two_values = refl

-- the words of all types
each_type : head_text (codes "T") (record { keys = record { name = codes "i"; ty = key_type.Text } ∷ record { name = codes "j"; ty = key_type.Flag } ∷ []; vals = record { name = codes "a"; ty = val_type.MinPlus } ∷ record { name = codes "b"; ty = val_type.MaxMin } ∷ record { name = codes "c"; ty = val_type.Flag } ∷ record { name = codes "d"; ty = val_type.Last } ∷ record { name = codes "e"; ty = val_type.Path } ∷ [] }) (codes "i" ∷ codes "j" ∷ []) ≡ codes "T[i: text, j: flag : a: minplus, b: maxmin, c: flag, d: last, e: path]"
unfolding same_name key_col key_cols key_type_text val_type_text key_column_text val_column_text key_columns_text head_text
each_type = refl

-- ---- cells and ends

cell : cell_text (Nat 5 ∷ Nat 1 ∷ []) (Count 320 ∷ []) ≡ codes "5,1:320"
unfolding digits number_text key_text value_text cell_text
cell = refl

no_columns : cell_text [] (Count 7 ∷ []) ≡ codes ":7"
unfolding digits number_text key_text value_text cell_text
no_columns = refl

more_values : cell_text (Nat 1 ∷ []) (Count 4 ∷ Count 10 ∷ []) ≡ codes "1:4,10"
unfolding digits number_text key_text value_text cell_text
more_values = refl

greatest : cell_text (Nat 0 ∷ []) (Count 18446744073709551614 ∷ []) ≡ codes "0:18446744073709551614"
unfolding digits number_text key_text value_text cell_text
greatest = refl

past_the_range : cell_text (Nat 18446744073709551615 ∷ []) (Count 18446744073709551615 ∷ []) ≡ codes "over:over"
unfolding number_text key_text value_text cell_text
past_the_range = refl

-- `1,"ab",false:7,12,3,false,"c",""`
each_kind : cell_text (Nat 1 ∷ column.Text (text.Within (codes "ab")) ∷ column.Flag false ∷ []) (Count 7 ∷ value.MinPlus 12 ∷ value.MaxMin 3 ∷ value.Flag false ∷ value.Last (text.Within (codes "c")) ∷ value.Path (path.Within []) ∷ []) ≡ 49 ∷ 44 ∷ 34 ∷ 97 ∷ 98 ∷ 34 ∷ (codes ",false:7,12,3,false," ++ (34 ∷ 99 ∷ 34 ∷ 44 ∷ 34 ∷ 34 ∷ []))
unfolding digits number_text distance_text flag_text quoted_byte quoted_text short_text path_text key_text value_text cell_text
each_kind = refl

each_over : cell_text (Nat 18446744073709551615 ∷ column.Text text.Over ∷ []) (value.MinPlus 18446744073709551614 ∷ value.MaxMin 18446744073709551615 ∷ value.Last text.Over ∷ value.Path path.Over ∷ []) ≡ codes "over,over:over,over,over,over"
unfolding number_text distance_text short_text path_text key_text value_text cell_text
each_over = refl

by_name : cell_text (column.Flag true ∷ []) (value.MinPlus 18446744073709551615 ∷ value.Path path.Absent ∷ value.MinPlus 18446744073709551613 ∷ []) ≡ codes "true:inf,none,18446744073709551613"
unfolding digits distance_text flag_text path_text key_text value_text cell_text
by_name = refl

-- `"\"\\\x00\x7f\x1f` and the byte 255 as it stands, then `"`
escapes : key_text (column.Text (text.Within (34 ∷ 92 ∷ 0 ∷ 127 ∷ 31 ∷ 255 ∷ []))) ≡ 34 ∷ 92 ∷ 34 ∷ 92 ∷ 92 ∷ 92 ∷ 120 ∷ 48 ∷ 48 ∷ 92 ∷ 120 ∷ 55 ∷ 102 ∷ 92 ∷ 120 ∷ 49 ∷ 102 ∷ 255 ∷ 34 ∷ []
unfolding quoted_byte quoted_text short_text key_text
escapes = refl

end : end_text 10 ≡ codes "end 10"
unfolding digits end_text
end = refl

-- ---- tables

empty : table_text (codes "T") (codes "i" ∷ []) (record { ty = singles; entries = [] }) ≡ codes "T[i: nat : v: count]\nend 0\n"
unfolding key val singles digits same_name read cut key_col key_cols recut agg ordered total key_set key_put at_keys at before same_key tuple_cmp value_zero value_plus value_is_zero row_zero row_plus row_is_zero number_text key_text value_text key_type_text val_type_text key_column_text val_column_text key_columns_text head_text cell_text end_text entry_line table_text
empty = refl

two_entries : Entries
two_entries = record { key = Nat 1 ∷ Nat 5 ∷ []; row = Count 6 ∷ [] } ∷ record { key = Nat 1 ∷ Nat 6 ∷ []; row = Count 8 ∷ [] } ∷ []

declared : table_text (codes "C") (codes "i" ∷ codes "j" ∷ []) (record { ty = pairs; entries = two_entries }) ≡ codes "C[i: nat, j: nat : v: count]\n1,5:6\n1,6:8\nend 2\n"
unfolding key val pairs two_entries digits same_name read cut key_col key_cols recut agg ordered total key_set key_put at_keys at before same_key tuple_cmp value_zero value_plus value_is_zero row_zero row_plus row_is_zero number_text key_text value_text key_type_text val_type_text key_column_text val_column_text key_columns_text head_text cell_text end_text entry_line table_text
declared = refl

-- the lines rise by the keys as they are printed
turned : table_text (codes "C") (codes "j" ∷ codes "i" ∷ []) (record { ty = pairs; entries = record { key = Nat 1 ∷ Nat 9 ∷ []; row = Count 5 ∷ [] } ∷ record { key = Nat 2 ∷ Nat 3 ∷ []; row = Count 6 ∷ [] } ∷ [] }) ≡ codes "C[j: nat, i: nat : v: count]\n3,2:6\n9,1:5\nend 2\n"
unfolding key val pairs digits same_name read cut key_col key_cols recut agg ordered total key_set key_put at_keys at before same_key tuple_cmp value_zero value_plus value_is_zero row_zero row_plus row_is_zero number_text key_text value_text key_type_text val_type_text key_column_text val_column_text key_columns_text head_text cell_text end_text entry_line table_text
turned = refl
