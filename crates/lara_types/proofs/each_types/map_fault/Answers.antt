use Rattle.lara_types.proofs.EachTypes.{map_twice, map_breaks, map_unfit, map_over, map_met}
use Rattle.lara_types.proofs.each_types.map_fault.Goals as goal

pub returns-then-not-are_names_apart : goal.returns-then-not-are_names_apart
returns-then-not-are_names_apart c = map_twice _ _ c.if-not-are_names_apart.ensures

pub returns-in-Err : goal.returns-in-Err
returns-in-Err c = map_breaks _ _ c.if-not-are_names_apart.ensures _ c.in-Err.ensures

pub returns-then-not-fit : goal.returns-then-not-fit
returns-then-not-fit c = map_unfit _ _ c.if-not-are_names_apart.ensures _ c.in-Ok.ensures c.if-not-fit.true

pub returns-then-is_map_too_wide : goal.returns-then-is_map_too_wide
returns-then-is_map_too_wide c = map_over _ _ c.if-not-are_names_apart.ensures _ c.in-Ok.ensures c.if-not-fit.false c.if-is_map_too_wide.ensures

pub returns-else-is_map_too_wide : goal.returns-else-is_map_too_wide
returns-else-is_map_too_wide c = map_met _ _ c.if-not-are_names_apart.ensures _ c.in-Ok.ensures c.if-not-fit.false c.if-is_map_too_wide.ensures
