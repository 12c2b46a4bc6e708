-- What the type of a table is.
use Rattle.std.specs.Prelude.{ℕ, Bool, ◌&&◌, nat_le, List, ◌++◌, length, map, Option, Some, None, if◌then◌else◌}
use Rattle.lara_key.specs.declared.key.KeyType.{KeyType}
use Rattle.lara_semiring.specs.declared.value.ValType.{ValType}
use Rattle.lara_data.specs.declared.table_type.KeyCol.{KeyCol}
use Rattle.lara_data.specs.declared.table_type.ValCol.{ValCol}
use Rattle.lara_data.specs.Names.{Name, distinct}

-- the key columns and the value columns
pub record Columns : Type 0 where
  pub keys : List KeyCol
  pub vals : List ValCol

-- the types of the value columns
abbrev pub types : List ValCol → List ValType
types vals = map (λ v. v.ty) vals

-- the types of the key columns
abbrev pub key_types : List KeyCol → List KeyType
key_types keys = map (λ k. k.ty) keys

-- the names of the key columns
abbrev pub key_names : List KeyCol → List Name
key_names keys = map (λ k. k.name) keys

-- the names of the value columns
abbrev pub val_names : List ValCol → List Name
val_names vals = map (λ v. v.name) vals

-- the names of all columns, keys first
abbrev pub column_names : List KeyCol → List ValCol → List Name
column_names keys vals = key_names keys ++ val_names vals

-- how many key columns, and how many value columns, a table may have
abbrev pub most_columns : ℕ
most_columns = 8

-- at most `most_columns` key columns, 1 to as many value columns, and no name that stands twice
unfoldable pub are_columns : List KeyCol → List ValCol → Bool
are_columns keys vals = nat_le (length keys) most_columns && nat_le 1 (length vals) && nat_le (length vals) most_columns && distinct (column_names keys vals)

-- the type with these columns, where there is one
abbrev pub typed_columns : List KeyCol → List ValCol → Option Columns
typed_columns keys vals = if are_columns keys vals then Some (record { keys = keys; vals = vals }) else None
