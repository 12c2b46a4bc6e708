use Rattle.lara_types.proofs.EachTypes.{promote_taken, promote_breaks, promote_unfit, promote_over, promote_met}
use Rattle.lara_types.proofs.each_types.promote_fault.Goals as goal

pub returns-then-is_column_name : goal.returns-then-is_column_name
returns-then-is_column_name c = promote_taken _ _ c.if-is_column_name.ensures

pub returns-in-Err : goal.returns-in-Err
returns-in-Err c = promote_breaks _ _ c.if-is_column_name.ensures _ c.in-Err.ensures

pub returns-then-not-same_expr_type : goal.returns-then-not-same_expr_type
returns-then-not-same_expr_type c = promote_unfit _ _ c.if-is_column_name.ensures _ c.in-Ok.ensures _ c.key_expr_type.ensures c.if-not-same_expr_type.ensures

pub returns-then-is_promote_too_wide : goal.returns-then-is_promote_too_wide
returns-then-is_promote_too_wide c = promote_over _ _ c.if-is_column_name.ensures _ c.in-Ok.ensures _ c.key_expr_type.ensures c.if-not-same_expr_type.ensures c.if-is_promote_too_wide.ensures

pub returns-else-is_promote_too_wide : goal.returns-else-is_promote_too_wide
returns-else-is_promote_too_wide c = promote_met _ _ c.if-is_column_name.ensures _ c.in-Ok.ensures _ c.key_expr_type.ensures c.if-not-same_expr_type.ensures c.if-is_promote_too_wide.ensures
