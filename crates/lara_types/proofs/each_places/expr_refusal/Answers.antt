use Rattle.lara_types.proofs.EachPlaces.{typed_none, refused_here}
use Rattle.std.proofs.Common.{sym}
use Rattle.lara_types.proofs.each_places.expr_refusal.Goals as goal

pub returns-in-Ok : goal.returns-in-Ok
returns-in-Ok c = typed_none c.args.ty.now c.args.expr.now _ c.in-Ok.ensures

pub returns-in-Err : goal.returns-in-Err
returns-in-Err c = sym (refused_here c.args.ty.now c.args.expr.now _ c.in-Err.ensures)
