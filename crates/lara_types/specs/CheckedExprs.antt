-- The type of an expression with places, or its first refusal: its parts come first, left to right.
use Rattle.std.specs.Prelude.{ℕ, nat_lt, Option, Some, None, Ok, if◌then◌else◌}
use Rattle.lara_base.specs.Results.{◌>>=◌}
use Rattle.lara_base.specs.Texts.{is_content}
use Rattle.lara_semiring.specs.Counts.{count_over}
use Rattle.lara_data.specs.declared.expr_val.ExprType.{ExprType}
use Rattle.lara_data.specs.declared.expr_val.ExprType.TheVariants.{Number, MinPlus, Text, Path, Flag}
use Rattle.lara_data.specs.declared.refusal.Kind.{Kind}
use Rattle.lara_data.specs.declared.refusal.Kind.TheVariants.{NoName, NotInRange, TypesDiffer}
use Rattle.lara_data.specs.ExprTypes.{column_type, sides_type, not_type, branches_type, fun_type}
use Rattle.lara_data.specs.Judgements.{Judged, refused}
use Rattle.lara_data.specs.TableTypes.{Columns}
use Rattle.lara_syntax.specs.declared.ast_expr.AstExpr.{AstExpr}
use Rattle.lara_syntax.specs.declared.ast_expr.AstForm.{AstForm}
use Rattle.lara_syntax.specs.declared.ast_expr.AstForm.TheBlock.{end_of-AstExpr, more_of-AstExpr}
use Rattle.lara_syntax.specs.declared.ast_expr.AstForm.TheVariants as form
use Rattle.lara_syntax.specs.declared.ast_expr.AstForm.TheVariants.{Two', Not', If', Fun'}

-- the type, or a refusal of this kind at this place where there is none
abbrev pub type_at : ℕ → Kind → Option ExprType → Judged ExprType
type_at at kind None = refused at kind
type_at at kind (Some t) = Ok t

-- the type of the expression whose own word is at this place
unfoldable pub checked_form : Columns → ℕ → AstForm → Judged ExprType
checked_form c at (form.Column n) = type_at at NoName (column_type c n)
checked_form c at (form.Number n) = if nat_lt n count_over then Ok Number else refused at NotInRange
checked_form c at (form.Text bs) = if is_content bs then Ok Text else refused at NotInRange
checked_form c at (form.Flag b) = Ok Flag
checked_form c at form.Inf = Ok MinPlus
checked_form c at form.None = Ok Path
checked_form c at (Two' o _ (more_of-AstExpr i a end_of-AstExpr) _ (more_of-AstExpr j b end_of-AstExpr)) = do
  t ← checked_form c i a
  u ← checked_form c j b
  type_at at TypesDiffer (sides_type o t u)
checked_form c at (Not' _ (more_of-AstExpr i a end_of-AstExpr)) = do
  t ← checked_form c i a
  type_at at TypesDiffer (not_type t)
checked_form c at (If' _ (more_of-AstExpr h z end_of-AstExpr) _ (more_of-AstExpr i a end_of-AstExpr) _ (more_of-AstExpr j b end_of-AstExpr)) = do
  s ← checked_form c h z
  t ← checked_form c i a
  u ← checked_form c j b
  type_at at TypesDiffer (branches_type s t u)
checked_form c at (Fun' f _ (more_of-AstExpr i a end_of-AstExpr)) = do
  t ← checked_form c i a
  type_at at TypesDiffer (fun_type f t)

-- the type of an expression
abbrev pub checked_expr : Columns → AstExpr → Judged ExprType
checked_expr c e = checked_form c e.at e.form
