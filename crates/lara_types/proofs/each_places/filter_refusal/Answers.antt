use Rattle.lara_types.proofs.EachPlaces.{filter_stops, filter_passes, filter_breaks}
use Rattle.lara_types.proofs.each_places.filter_refusal.Goals as goal

pub returns-in-Err : goal.returns-in-Err
returns-in-Err c = filter_stops c.args.at c.args.ty.now c.args.test.now _ c.in-Err.ensures

pub returns-then-is_flag : goal.returns-then-is_flag
returns-then-is_flag c = filter_passes c.args.at c.args.ty.now c.args.test.now c.in-Ok.ensures.1 _ c.in-Ok.ensures.0 c.if-is_flag.true

pub returns-else-is_flag : goal.returns-else-is_flag
returns-else-is_flag c = filter_breaks c.args.at c.args.ty.now c.args.test.now c.in-Ok.ensures.1 _ _ c.in-Ok.ensures.0 c.if-is_flag.false c.refusal.ensures
