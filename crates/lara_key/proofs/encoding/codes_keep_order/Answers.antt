use Rattle.lara_key.specs.CodeOrder.{codes_keep_order}
use Rattle.lara_key.proofs.encoding.codes_keep_order.Goals as goal

pub returns : goal.returns
returns c = codes_keep_order c.args.tys.now c.args.a.now c.args.b.now c.requires.left c.requires.right
