use Rattle.std.proofs.Common.{subst}
use Rattle.lara_data.specs.Tables.{Table}
use Rattle.lara_data.specs.TypedTables.{IsTypedTable}
use Rattle.lara_assoc.proofs.assoc.Assoc.entries.Goals as goal

pub returns-clause-typed : goal.returns-clause-typed
returns-clause-typed c = subst (λ (t : Table). IsTypedTable t) c.self.view_is c.self.invariant
