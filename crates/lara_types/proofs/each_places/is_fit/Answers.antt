use Rattle.std.proofs.Common.{◌∙◌, ap}
use Rattle.lara_types.proofs.EachPlaces.{typed_is_of, refused_is_of}
use Rattle.lara_data.specs.ExprTypes.{val_expr_type, same_expr_type}
use Rattle.lara_types.proofs.each_places.is_fit.Goals as goal

pub returns-in-Ok : goal.returns-in-Ok
returns-in-Ok c = typed_is_of c.args.ty.now c.args.def.now.expr _ (val_expr_type c.args.def.now.col.ty) c.in-Ok.ensures _ (c.same_expr_type.ensures ∙ ap (λ u. same_expr_type u c.in-Ok.found) c.val_expr_type.ensures)

pub returns-in-Err : goal.returns-in-Err
returns-in-Err c = refused_is_of c.args.ty.now c.args.def.now.expr (val_expr_type c.args.def.now.col.ty) _ c.in-Err.ensures
