use Rattle.std.proofs.Common.{◌≡◌, map, take}
use Rattle.lara_data.specs.declared.table_type.KeyCol.{KeyCol}
use Rattle.lara_data.specs.Extensions.{new_name}
use Rattle.lara_types.proofs.rename_types.renamed_keys.Given as goal

-- the columns so far
abbrev pub invariant-loop-key : goal.invariant-loop-key
invariant-loop-key l = l.renamed ≡ map {A = KeyCol} {B = KeyCol} (λ k. record { name = new_name l.pairs k.name; ty = k.ty }) (take l.key-index l.keys)
