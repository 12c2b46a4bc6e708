-- Expressions in which nothing is a text or a path, so that to evaluate them takes no memory.
use Rattle.std.specs.Prelude.{Bool, true, false, ◌&&◌, Option, Some, None}
use Rattle.lara_data.specs.declared.expr.Expr.{Expr}
use Rattle.lara_data.specs.declared.expr.Expr.TheBlock.{end_of-Expr, more_of-Expr}
use Rattle.lara_data.specs.declared.expr.Expr.TheVariants as expr
use Rattle.lara_data.specs.declared.expr.Expr.TheVariants.{Two', Not', If', Fun'}
use Rattle.lara_data.specs.declared.expr_val.ExprType.{ExprType}
use Rattle.lara_data.specs.declared.expr_val.ExprType.TheVariants as type
use Rattle.lara_data.specs.declared.expr_val.ExprVal.{ExprVal}
use Rattle.lara_data.specs.declared.expr_val.ExprVal.TheVariants.{Number, MinPlus, Text, Path, Flag}
use Rattle.lara_data.specs.TableTypes.{Columns}
use Rattle.lara_data.specs.ExprTypes.{column_type}

-- numbers, distances and flags
abbrev pub is_plain_type : ExprType → Bool
is_plain_type type.Number = true
is_plain_type type.MinPlus = true
is_plain_type type.Text = false
is_plain_type type.Path = false
is_plain_type type.Flag = true

-- a number, a distance or a flag
abbrev pub is_plain_val : ExprVal → Bool
is_plain_val (Number n) = true
is_plain_val (MinPlus n) = true
is_plain_val (Text t) = false
is_plain_val (Path p) = false
is_plain_val (Flag b) = true

-- a column of numbers, distances or flags
abbrev pub is_plain_column : Option ExprType → Bool
is_plain_column (Some t) = is_plain_type t
is_plain_column None = false

-- no part of the expression is a text or a path
unfoldable pub is_plain : Columns → Expr → Bool
is_plain c (expr.Column n) = is_plain_column (column_type c n)
is_plain c (expr.Number n) = true
is_plain c (expr.Text bs) = false
is_plain c (expr.Flag b) = true
is_plain c expr.Inf = true
is_plain c expr.None = false
is_plain c (Two' o _ (more_of-Expr a end_of-Expr) _ (more_of-Expr b end_of-Expr)) = is_plain c a && is_plain c b
is_plain c (Not' _ (more_of-Expr a end_of-Expr)) = is_plain c a
is_plain c (If' _ (more_of-Expr z end_of-Expr) _ (more_of-Expr a end_of-Expr) _ (more_of-Expr b end_of-Expr)) = is_plain c z && is_plain c a && is_plain c b
is_plain c (Fun' f _ (more_of-Expr a end_of-Expr)) = is_plain c a
