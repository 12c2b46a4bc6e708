use Rattle.lara_types.proofs.MadeEach.{promote_typed}
use Rattle.lara_types.proofs.each_trees.promote_of.Goals as goal

pub promote_made-requires : goal.promote_made-requires
promote_made-requires c = promote_typed c.args.at c.args.a.ty c.args.def.now c.in-None.ensures
