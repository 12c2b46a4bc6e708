use Rattle.lara_assoc.proofs.NewestFacts.{newest_more}
use Rattle.lara_assoc.proofs.assigned.Assigned.put.Goals as goal

pub returns : goal.returns
returns c = λ ts h. newest_more c.args.self.now.tables c.insert.new.self ts c.args.name c.args.table h c.in_ok-insert.ensures.updates
