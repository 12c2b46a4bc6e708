-- There is one reading.
use Rattle.lara_syntax.proofs.ReadLaws.{read-only}
use Rattle.lara_syntax.proofs.scan.read_items.Goals as goal

pub returns-clause-only : goal.returns-clause-only
returns-clause-only c = read-only c.args.bytes.now c.in_ok-items.items.list c.in_ok-items.items.stopped c.in_ok-items.ensures.0 c.in_ok-items.ensures.1
