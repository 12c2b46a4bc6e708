-- The rules of expressions with places, in their order, and where an expression begins.
use Rattle.std.specs.Prelude.{ℕ, Bool, true, false, nat_lt, List, [], ◌∷◌, ◌++◌, Ok, Err}
use Rattle.lara_base.specs.Texts.{is_content}
use Rattle.lara_semiring.specs.Counts.{count_over}
use Rattle.lara_data.specs.declared.expr_val.ExprType.{ExprType}
use Rattle.lara_data.specs.declared.refusal.Kind.TheVariants.{NoName, NotInRange, TypesDiffer}
use Rattle.lara_data.specs.ExprTypes.{same_expr_type, ExprTyping, expr_type}
use Rattle.lara_data.specs.TableTypes.{Columns}
use Rattle.lara_syntax.specs.declared.ast_expr.AstExpr.{AstExpr}
use Rattle.lara_syntax.specs.declared.ast_expr.AstForm.{AstForm}
use Rattle.lara_syntax.specs.declared.ast_expr.AstForm.TheBlock.{end_of-AstExpr, more_of-AstExpr}
use Rattle.lara_syntax.specs.declared.ast_expr.AstForm.TheVariants as form
use Rattle.lara_syntax.specs.declared.ast_expr.AstForm.TheVariants.{Two', Not', If', Fun'}
use Rattle.lara_types.specs.Rules.{Rule, rule}
use Rattle.lara_types.specs.Written.{plain_form, plain_expr}

-- there is a type
abbrev pub is_typed : ExprTyping → Bool
is_typed (Ok t) = true
is_typed (Err kind) = false

-- the type is this one
abbrev pub is_of : ExprType → ExprTyping → Bool
is_of t (Ok u) = same_expr_type t u
is_of t (Err kind) = false

-- the form has a type over these columns
abbrev pub form_typed : Columns → AstForm → Bool
form_typed c f = is_typed (expr_type c (plain_form f))

-- The rules of an expression whose own word is at this place: those of its parts, left to right, and then its own, that it has
-- a type where its parts have theirs.
unfoldable pub form_rules : Columns → ℕ → AstForm → List Rule
form_rules c at (form.Column n) = rule at NoName (form_typed c (form.Column n)) ∷ []
form_rules c at (form.Number n) = rule at NotInRange (nat_lt n count_over) ∷ []
form_rules c at (form.Text bs) = rule at NotInRange (is_content bs) ∷ []
form_rules c at (form.Flag b) = []
form_rules c at form.Inf = []
form_rules c at form.None = []
form_rules c at (Two' o p (more_of-AstExpr i a end_of-AstExpr) q (more_of-AstExpr j b end_of-AstExpr)) =
    form_rules c i a ++ (form_rules c j b ++ rule at TypesDiffer (form_typed c (Two' o p (more_of-AstExpr i a end_of-AstExpr) q (more_of-AstExpr j b end_of-AstExpr))) ∷ [])
form_rules c at (Not' p (more_of-AstExpr i a end_of-AstExpr)) = form_rules c i a ++ rule at TypesDiffer (form_typed c (Not' p (more_of-AstExpr i a end_of-AstExpr))) ∷ []
form_rules c at (If' p (more_of-AstExpr h t end_of-AstExpr) q (more_of-AstExpr i a end_of-AstExpr) s (more_of-AstExpr j b end_of-AstExpr)) =
    form_rules c h t ++ (form_rules c i a ++ (form_rules c j b ++ rule at TypesDiffer (form_typed c (If' p (more_of-AstExpr h t end_of-AstExpr) q (more_of-AstExpr i a end_of-AstExpr) s (more_of-AstExpr j b end_of-AstExpr))) ∷ []))
form_rules c at (Fun' f p (more_of-AstExpr i a end_of-AstExpr)) = form_rules c i a ++ rule at TypesDiffer (form_typed c (Fun' f p (more_of-AstExpr i a end_of-AstExpr))) ∷ []

-- the rules of an expression
abbrev pub expr_rules : Columns → AstExpr → List Rule
expr_rules c e = form_rules c e.at e.form

-- the type of an expression, or the kind of the first rule that is broken
abbrev pub expr_typing : Columns → AstExpr → ExprTyping
expr_typing c e = expr_type c (plain_expr e)

-- the first word of an expression, which is no parenthesis: that of the left part where there is one left of the own word
unfoldable pub first_word : ℕ → AstForm → ℕ
first_word at (Two' o _ (more_of-AstExpr i a end_of-AstExpr) _ (more_of-AstExpr j b end_of-AstExpr)) = first_word i a
first_word at f = at
