-- The text of a table.
use Rattle.std.specs.Prelude.{ℕ, ◌-◌, ◌^◌, ◌==◌, Bool, true, false, List, [], ◌∷◌, ◌++◌, length, codes, decimal, if◌then◌else◌}
use Rattle.std.specs.List.{flat_map, join_by}
use Rattle.lara_base.specs.declared.text.Text.{Text}
use Rattle.lara_base.specs.declared.text.Text.TheVariants as text
use Rattle.lara_semiring.specs.MinPlus.{minplus_inf, minplus_over}
use Rattle.lara_semiring.specs.declared.path.PathText.{PathText}
use Rattle.lara_semiring.specs.declared.path.PathText.TheVariants as path
use Rattle.lara_semiring.specs.declared.value.ValType.{ValType}
use Rattle.lara_semiring.specs.declared.value.ValType.TheVariants as val_type
use Rattle.lara_semiring.specs.declared.value.Value.{Value}
use Rattle.lara_semiring.specs.declared.value.Value.TheVariants as value
use Rattle.lara_key.specs.declared.key.KeyType.{KeyType}
use Rattle.lara_key.specs.declared.key.KeyType.TheVariants as key_type
use Rattle.lara_key.specs.declared.key.KeyVal.{KeyVal}
use Rattle.lara_key.specs.declared.key.KeyVal.TheVariants as key
use Rattle.lara_data.specs.declared.table_type.KeyCol.{KeyCol}
use Rattle.lara_data.specs.declared.table_type.ValCol.{ValCol}
use Rattle.lara_data.specs.TableTypes.{Columns}
use Rattle.lara_data.specs.KeyedTables.{Row}
use Rattle.lara_data.specs.Names.{Name, Tuple}
use Rattle.lara_data.specs.Tables.{Entry, Table}
use Rattle.lara_data.specs.Algebra.{key_cols, ordered}
use Rattle.lara_text.specs.Quotes.{quoted_text}

-- a number in decimal; the greatest word is `over`
unfoldable pub number_text : ℕ → List ℕ
number_text n = if n == 2 ^ 64 - 1 then codes "over" else decimal n

-- a distance in decimal, `over` or `inf`
unfoldable pub distance_text : ℕ → List ℕ
distance_text n = if n == minplus_inf then codes "inf" else if n == minplus_over then codes "over" else decimal n

-- a flag
unfoldable pub flag_text : Bool → List ℕ
flag_text true = codes "true"
flag_text false = codes "false"

-- a text in quotes, or `over`
unfoldable pub short_text : Text → List ℕ
short_text (text.Within bytes) = quoted_text bytes
short_text text.Over = codes "over"

-- a path in quotes, `over` or `none`
unfoldable pub path_text : PathText → List ℕ
path_text (path.Within bytes) = quoted_text bytes
path_text path.Over = codes "over"
path_text path.Absent = codes "none"

-- a column of a key
unfoldable pub key_text : KeyVal → List ℕ
key_text (key.Nat n) = number_text n
key_text (key.Text t) = short_text t
key_text (key.Flag b) = flag_text b

-- a value, by its own kind
unfoldable pub value_text : Value → List ℕ
value_text (value.Count n) = number_text n
value_text (value.MinPlus n) = distance_text n
value_text (value.MaxMin n) = number_text n
value_text (value.Flag b) = flag_text b
value_text (value.Last t) = short_text t
value_text (value.Path p) = path_text p

-- the word of a key type
unfoldable pub key_type_text : KeyType → List ℕ
key_type_text key_type.Nat = codes "nat"
key_type_text key_type.Text = codes "text"
key_type_text key_type.Flag = codes "flag"

-- the word of a value type
unfoldable pub val_type_text : ValType → List ℕ
val_type_text val_type.Count = codes "count"
val_type_text val_type.MinPlus = codes "minplus"
val_type_text val_type.MaxMin = codes "maxmin"
val_type_text val_type.Flag = codes "flag"
val_type_text val_type.Last = codes "last"
val_type_text val_type.Path = codes "path"

-- a key column with its type, as `i: nat`
unfoldable pub key_column_text : KeyCol → List ℕ
key_column_text k = k.name ++ codes ": " ++ key_type_text k.ty

-- a value column with its type, as `v: count`
unfoldable pub val_column_text : ValCol → List ℕ
val_column_text v = v.name ++ codes ": " ++ val_type_text v.ty

-- the key columns, and a space behind them where there are any
unfoldable pub key_columns_text : List KeyCol → List ℕ
key_columns_text [] = []
key_columns_text (k ∷ ks) = join_by key_column_text (codes ", ") (k ∷ ks) ++ codes " "

-- the head, as `T[i: nat : v: count]`, with the key columns in the order
unfoldable pub head_text : Name → Columns → List Name → List ℕ
head_text name ty order = name ++ codes "[" ++ key_columns_text (key_cols ty.keys order) ++ codes ": " ++ join_by val_column_text (codes ", ") ty.vals ++ codes "]"

-- a cell, as `1,2:7`
unfoldable pub cell_text : Tuple → Row → List ℕ
cell_text key row = join_by key_text (codes ",") key ++ codes ":" ++ join_by value_text (codes ",") row

-- the end, as `end 1`
unfoldable pub end_text : ℕ → List ℕ
end_text cells = codes "end " ++ decimal cells

-- a text with its line feed
abbrev pub line : List ℕ → List ℕ
line text = text ++ codes "\n"

-- the line of an entry
unfoldable pub entry_line : Entry → List ℕ
entry_line e = line (cell_text e.key e.row)

-- the line of the head, a line for each cell in the rising order of the permuted keys, and the line of the end with the
-- number of cells
unfoldable pub table_text : Name → List Name → Table → List ℕ
table_text name order t = line (head_text name t.ty order) ++ flat_map entry_line (ordered t order) ++ line (end_text (length (ordered t order)))
