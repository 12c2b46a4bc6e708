use Rattle.lara_types.proofs.EachPlaces.{promote_named, promote_stops, promote_unlike, promote_wide, promote_passes}
use Rattle.lara_types.proofs.each_places.promote_refusal.Goals as goal

pub returns-then-is_column_name : goal.returns-then-is_column_name
returns-then-is_column_name c = promote_named c.args.at c.args.ty.now c.args.def.now _ c.if-is_column_name.ensures c.refusal.ensures

pub returns-in-Err : goal.returns-in-Err
returns-in-Err c = promote_stops c.args.at c.args.ty.now c.args.def.now c.if-is_column_name.ensures _ c.in-Err.ensures

pub returns-then-not-fit : goal.returns-then-not-fit
returns-then-not-fit c = promote_unlike c.args.at c.args.ty.now c.args.def.now c.if-is_column_name.ensures c.in-Ok.ensures.1 _ c.key_expr_type.ensures _ c.in-Ok.ensures.0 _ c.if-not-fit.true c.refusal-then-not-fit.ensures

pub returns-then-is_promote_too_wide : goal.returns-then-is_promote_too_wide
returns-then-is_promote_too_wide c = promote_wide c.args.at c.args.ty.now c.args.def.now c.if-is_column_name.ensures c.in-Ok.ensures.1 _ c.key_expr_type.ensures _ c.in-Ok.ensures.0 c.if-not-fit.false _ c.if-is_promote_too_wide.ensures c.refusal-then-is_promote_too_wide.ensures

pub returns-else-is_promote_too_wide : goal.returns-else-is_promote_too_wide
returns-else-is_promote_too_wide c = promote_passes c.args.at c.args.ty.now c.args.def.now c.if-is_column_name.ensures c.in-Ok.ensures.1 _ c.key_expr_type.ensures _ c.in-Ok.ensures.0 c.if-not-fit.false c.if-is_promote_too_wide.ensures
