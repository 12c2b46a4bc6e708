use Rattle.std.proofs.Common.{◌≡◌, ◌∷◌, [], true}
use Rattle.lara_key.specs.Keys.{tuple_has}
use Rattle.lara_key.specs.declared.key.KeyType.TheVariants.{Nat}
use Rattle.lara_semiring.specs.declared.value.ValType.TheVariants.{Count}
use Rattle.lara_data.specs.KeyedTables.{AllKeys, all_have}
use Rattle.lara_assoc.proofs.tests.cells_of.Given as goal

-- the keys so far are numbers, and the rows counts
abbrev pub invariant-loop-i : goal.invariant-loop-i
invariant-loop-i l = record {
  keys : AllKeys (λ k. tuple_has (Nat ∷ Nat ∷ []) k ≡ true) l.entries;
  rows : all_have (Count ∷ []) l.entries ≡ true;
}
