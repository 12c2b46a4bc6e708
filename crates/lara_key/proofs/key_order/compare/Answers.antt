use Rattle.lara_key.specs.Keys.{tuple_cmp}
use Rattle.lara_key.specs.Precedence.{tuple_cmp-Less, tuple_cmp-Greater}
use Rattle.lara_key.proofs.key_order.compare.Goals as goal

pub returns-clause-less : goal.returns-clause-less
unfolding tuple_cmp
returns-clause-less c = rw c.cmp.ensures (tuple_cmp-Less c.args.a.now c.args.b.now)

pub returns-clause-greater : goal.returns-clause-greater
unfolding tuple_cmp
returns-clause-greater c = rw c.cmp.ensures (tuple_cmp-Greater c.args.a.now c.args.b.now)
