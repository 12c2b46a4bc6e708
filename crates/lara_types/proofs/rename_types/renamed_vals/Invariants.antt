use Rattle.std.proofs.Common.{◌≡◌, map, take}
use Rattle.lara_data.specs.declared.table_type.ValCol.{ValCol}
use Rattle.lara_data.specs.Extensions.{new_name}
use Rattle.lara_types.proofs.rename_types.renamed_vals.Given as goal

-- the columns so far
abbrev pub invariant-loop-val : goal.invariant-loop-val
invariant-loop-val l = l.renamed ≡ map {A = ValCol} {B = ValCol} (λ v. record { name = new_name l.pairs v.name; ty = v.ty }) (take l.val-index l.vals)
