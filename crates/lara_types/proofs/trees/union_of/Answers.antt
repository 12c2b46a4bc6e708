use Rattle.lara_types.proofs.MadeNodes.{union_placed}
use Rattle.lara_types.proofs.trees.union_of.Goals as goal

pub returns : goal.returns
returns c =
    let made = union_placed c.args.at c.args.a.ty c.args.b.ty _ _ _ c.placed.ensures.typed c.placed.ensures.broken c.in_ok-ty.ensures.answer in
    rw (c.in_ok-new.ensures, c.in_ok-new-2.ensures) at made
