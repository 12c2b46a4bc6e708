-- Tables with named columns: the table of a list of entries, and its entries in another order of the key columns.
use Rattle.std.specs.Prelude.{◌≡◌, Bool, ◌&&◌, not, List}
use Rattle.std.proofs.Common.{ap}
use Rattle.std.specs.List.{list_all, list_any}
use Rattle.std.specs.List.Sorted.{IsPermutation}
use Rattle.lara_semiring.specs.declared.value.ValType.{ValType}
use Rattle.lara_semiring.specs.Rows.{row_is_over}
use Rattle.lara_key.specs.Keys.{key_is_over, tuple_cmp}
use Rattle.lara_data.specs.declared.entry.Keyed.{Keyed}
use Rattle.lara_data.specs.TableTypes.{Columns, types}
use Rattle.lara_data.specs.KeyedTables.{total, with_keys}
use Rattle.lara_data.specs.KeyedTotals.{total_permutation}
use Rattle.lara_data.specs.TupleOrders.{tuple_order}
use Rattle.lara_data.specs.Names.{Name, Tuple, cut}

-- a key with its row
abbrev pub Entry : Type 0
Entry = Keyed Tuple

-- a list of keys with their rows
abbrev pub Entries : Type 0
Entries = List Entry

-- Named columns, and entries. A table of the kernel is one that `total` makes: each key once, in rising order, with a row
-- that is not default (IsTypedTable says so).
pub record Table : Type 0 where
  pub ty : Columns
  pub entries : Entries

-- the table whose row at each key is the sum of all rows that are listed with the key
unfoldable pub table_of : Columns → Entries → Table
table_of ty es = record { ty = ty; entries = total tuple_cmp (types ty.vals) es }

-- the entries with their keys over the columns ns cut to the columns ms
unfoldable pub recut : List Name → List Name → Entries → Entries
recut ns ms es = with_keys (cut ns ms) es

-- no key column and no value of the entry is beyond the range of its type
abbrev pub is_entry_in_range : List ValType → Entry → Bool
is_entry_in_range ts e = not (list_any key_is_over e.key) && not (row_is_over ts e.row)

-- no key column and no value of the table is beyond the range of its type
unfoldable pub is_in_range : Table → Bool
is_in_range t = list_all (is_entry_in_range (types t.ty.vals)) t.entries

-- ---- laws

-- the table does not depend on the order of the list
pub table_of_permutation : (ty : Columns) (xs ys : Entries) → IsPermutation xs ys → table_of ty xs ≡ table_of ty ys
unfolding table_of
table_of_permutation ty xs ys p = ap {A = Entries} (λ es. record { ty = ty; entries = es }) (total_permutation tuple_order (types ty.vals) xs ys p)
