use Rattle.std.proofs.Common.{◌≡◌, List, ℕ, [], ◌∷◌, ◌++◌}
use Rattle.lara_key.specs.declared.key.KeyType.TheVariants.{Nat}
use Rattle.lara_semiring.specs.declared.value.ValType.TheVariants.{Count}
use Rattle.lara_data.specs.declared.schema.Schema.{Schema}
use Rattle.lara_data.specs.Denotations.{NamedTable}
use Rattle.lara_data.specs.Fits.{TablesOf}
use Rattle.lara_data.specs.Tables.{Table}
use Rattle.lara_data.specs.TypedTables.{IsTypedTable}
use Rattle.lara.proofs.tests_stored.tables.Goals as goal

-- the name B with the key column k and the value column v
abbrev schema : Schema
schema = record { name = 66 ∷ []; ty = record { keys = record { name = 107 ∷ []; ty = Nat } ∷ []; vals = record { name = 118 ∷ []; ty = Count } ∷ [] } }

is_one : (ts old : List NamedTable) (name : List ℕ) (table : Table) → ts ≡ old ++ record { name = name; table = table } ∷ [] → old ≡ [] → name ≡ schema.name → table.ty ≡ schema.ty → IsTypedTable table → TablesOf (schema ∷ []) ts
unfolding TablesOf
is_one ts old name table is none named columns typed = rw (is, none) (named, record { columns = columns; typed = typed }, tt)

pub returns : goal.returns
returns c = is_one _ _ _ _ c.in_ok-push.ensures.ok c.new-tables.ensures c.in_ok-name.ensures c.in_ok-table.ensures.columns c.in_ok-table.ensures.typed
