use Rattle.lara_types.proofs.EachPlaces.{typed_met, typed_is_of, refused_here}
use Rattle.lara_types.proofs.each_places.is_of.Goals as goal

pub returns-in-Ok : goal.returns-in-Ok
returns-in-Ok c = (typed_is_of c.args.ty.now c.args.expr.now _ c.args.wanted c.in-Ok.ensures _ c.same_expr_type.ensures, typed_met c.args.ty.now c.args.expr.now _ c.in-Ok.ensures)

pub returns-in-Err : goal.returns-in-Err
returns-in-Err c = refused_here c.args.ty.now c.args.expr.now _ c.in-Err.ensures
