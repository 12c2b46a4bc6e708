-- Whether the expressions of a map have types, and those of their columns.
use Rattle.std.specs.Prelude.{Bool, true, ◌&&◌, List, [], ◌∷◌, Result, Ok}
use Rattle.lara_base.specs.Results.{◌>>=◌}
use Rattle.lara_data.specs.declared.arg.Def.{Def}
use Rattle.lara_data.specs.declared.refusal.Kind.{Kind}
use Rattle.lara_data.specs.ExprTypes.{val_expr_type, same_expr_type, expr_type}
use Rattle.lara_data.specs.TableTypes.{Columns}

-- whether each expression is of its column's type, or the kind of the first rule that one breaks
unfoldable pub def_fits : Columns → List Def → Result Bool Kind
def_fits a [] = Ok true
def_fits a (d ∷ ds) = do
  t ← expr_type a d.expr
  fit ← def_fits a ds
  Ok (same_expr_type (val_expr_type d.col.ty) t && fit)
