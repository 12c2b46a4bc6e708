use Rattle.lara_assoc.proofs.NewestFacts.{newest_none}
use Rattle.lara_assoc.proofs.assigned.Assigned.new.Goals as goal

pub returns : goal.returns
returns c = newest_none c.new.result c.new.ensures.empty
