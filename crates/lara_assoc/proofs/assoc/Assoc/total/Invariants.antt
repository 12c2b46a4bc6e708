use Rattle.std.proofs.Common.{drop}
use Rattle.lara_data.specs.TableTypes.{types}
use Rattle.lara_assoc.specs.Summed.{IsLeft}
use Rattle.lara_assoc.proofs.assoc.Assoc.total.Given as goal

-- the entries behind those so far are left
abbrev pub invariant-loop-entry : goal.invariant-loop-entry
invariant-loop-entry l = IsLeft (types l.ty.vals) l.sums (drop l.entry-index l.entries) l.entries
