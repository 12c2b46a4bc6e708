use Rattle.std.proofs.Common.{◌≡◌, [], ◌∷◌, true, refl, sym, ap, ◌∙◌, subst, Result, Ok, Err, IfOk}
use Rattle.lara_key.specs.Keys.{tuple_has, has_key_type}
use Rattle.lara_key.specs.declared.key.KeyType.TheVariants.{Nat}
use Rattle.lara_key.specs.declared.key.KeyVal.TheVariants as key
use Rattle.lara_semiring.specs.Rows.{row_has}
use Rattle.lara_semiring.specs.Values.{has_type}
use Rattle.lara_semiring.specs.declared.value.ValType.TheVariants.{Count}
use Rattle.lara_semiring.specs.declared.value.Value.TheVariants as value
use Rattle.lara_data.specs.KeyedTables.{all_have, AllKeys}
use Rattle.lara_data.specs.TableTypes.{Columns, types, are_columns}
use Rattle.lara_data.specs.Tables.{Entries, Table, table_of}
use Rattle.lara_data.specs.TypedTables.{KeyHas, IsTypedTable, IsTypedTable-table_of}
use Rattle.lara_data.specs.Names.{distinct, has, same_name}
use Rattle.lara.proofs.tests_stored.table.Goals as goal

-- the key column k and the value column v
abbrev columns : Columns
columns = record { keys = record { name = 107 ∷ []; ty = Nat } ∷ []; vals = record { name = 118 ∷ []; ty = Count } ∷ [] }

-- at the key 1 the value 3
abbrev entries : Entries
entries = record { key = key.Nat 1 ∷ []; row = value.Count 3 ∷ [] } ∷ []

rows_typed : all_have (types columns.vals) entries ≡ true
unfolding all_have row_has has_type
rows_typed = refl

columns_are : are_columns columns.keys columns.vals ≡ true
unfolding are_columns distinct has same_name
columns_are = refl

keys_typed : AllKeys (KeyHas columns.keys) entries
unfolding AllKeys tuple_has has_key_type
keys_typed = (refl, tt)

table_typed : IsTypedTable (table_of columns entries)
table_typed = IsTypedTable-table_of columns entries columns_are rows_typed keys_typed

has_columns : {E : Type 0} (r : Result Table E) (ty : Columns) (es : Entries) → IfOk r (λ a. a ≡ table_of ty es) → ty ≡ columns → IfOk r (λ t. t.ty ≡ columns)
unfolding table_of
has_columns (Ok t) ty es is e = ap (λ (u : Table). u.ty) is ∙ e
has_columns (Err x) ty es is e = tt

is_typed : {E : Type 0} (r : Result Table E) (ty : Columns) (es : Entries) → IfOk r (λ a. a ≡ table_of ty es) → ty ≡ columns → es ≡ entries → IfOk r IsTypedTable
is_typed (Ok t) ty es is e f = subst IsTypedTable (sym (is ∙ ap (λ (u : Columns). table_of u es) e ∙ ap (table_of columns) f)) table_typed
is_typed (Err x) ty es is e f = tt

pub total-requires-clause-keys : goal.total-requires-clause-keys
total-requires-clause-keys c = rw (c.in_ok-ty.ensures, c.in_ok-entries.ensures) keys_typed

pub total-requires-clause-rows : goal.total-requires-clause-rows
total-requires-clause-rows c = rw (c.in_ok-ty.ensures, c.in_ok-entries.ensures) rows_typed

pub returns-clause-columns : goal.returns-clause-columns
returns-clause-columns c = has_columns c.total.result _ _ c.total.ensures.table c.in_ok-ty.ensures

pub returns-clause-typed : goal.returns-clause-typed
returns-clause-typed c = is_typed c.total.result _ _ c.total.ensures.table c.in_ok-ty.ensures c.in_ok-entries.ensures
