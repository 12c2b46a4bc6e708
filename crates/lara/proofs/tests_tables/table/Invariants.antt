use Rattle.std.proofs.Common.{◌≡◌, ◌∷◌, [], true}
use Rattle.lara_key.specs.Keys.{tuple_has}
use Rattle.lara_semiring.specs.declared.value.ValType.TheVariants.{Count}
use Rattle.lara_data.specs.KeyedTables.{AllKeys, all_have}
use Rattle.lara_data.specs.TableTypes.{key_types}
use Rattle.lara.proofs.tests_tables.table.Given as goal

-- the keys so far are of the columns, and the rows counts
abbrev pub invariant-loop-numbers : goal.invariant-loop-numbers
invariant-loop-numbers l = record {
  keys : AllKeys (λ k. tuple_has (key_types l.ty.keys) k ≡ true) l.entries;
  rows : all_have (Count ∷ []) l.entries ≡ true;
}
