-- Expressions, read from left to right: each rule by the word that is next.
use Rattle.std.specs.Prelude.{ℕ, zero, suc, nat_eq, nat_lt, Option, Some, None, if◌then◌else◌}
use Rattle.lara_data.specs.declared.expr.TwoOp.{TwoOp}
use Rattle.lara_data.specs.declared.expr.TwoOp.TheVariants as two
use Rattle.lara_data.specs.declared.expr.FunOp.{FunOp}
use Rattle.lara_data.specs.declared.expr.FunOp.TheVariants as fun
use Rattle.lara_data.specs.declared.refusal.Kind.TheVariants.{TooMany}
use Rattle.lara_syntax.specs.declared.item.Lexeme.{Lexeme}
use Rattle.lara_syntax.specs.declared.item.Lexeme.TheVariants as lex
use Rattle.lara_syntax.specs.declared.item.Keyword.TheVariants as key
use Rattle.lara_syntax.specs.declared.item.Sign.TheVariants as mark
use Rattle.lara_syntax.specs.declared.count.Count.{Count}
use Rattle.lara_syntax.specs.declared.ast_expr.AstExpr.{AstExpr}
use Rattle.lara_syntax.specs.declared.ast_expr.AstForm.TheVariants as form
use Rattle.lara_syntax.specs.ExprGrammar.{expr_at, two_at, literal_form}
use Rattle.lara_syntax.specs.Limits.{one_sign}
use Rattle.lara_syntax.specs.WordReading.{sign, keyword, name, lit, next_as}
use Rattle.lara_syntax.specs.Steps.{Reader, ◌>>=◌, give, refuse, peek, skip, turns}

-- an expression, and what was counted in the statement up to its end
abbrev pub CountedExpr : Type 0
CountedExpr = AstExpr × Count

-- reads an expression behind so much that was counted
abbrev pub ExprReader : Type 0
ExprReader = Count → Reader CountedExpr

-- ---- operators between two parts

-- the operator that a word is
abbrev pub two_of : Lexeme → Option TwoOp
two_of (lex.Key key.Or) = Some two.Or
two_of (lex.Key key.And) = Some two.And
two_of (lex.Sign mark.Equal) = Some two.Eq
two_of (lex.Sign mark.NotEqual) = Some two.Ne
two_of (lex.Sign mark.Less) = Some two.Lt
two_of (lex.Sign mark.LessEqual) = Some two.Le
two_of (lex.Sign mark.Greater) = Some two.Gt
two_of (lex.Sign mark.GreaterEqual) = Some two.Ge
two_of (lex.Sign mark.PlusPlus) = Some two.Cat
two_of (lex.Sign mark.Plus) = Some two.Add
two_of (lex.Sign mark.Times) = Some two.Mul
two_of w = None

-- how tightly an operator binds its two parts: the greater, the tighter
abbrev pub binding : TwoOp → ℕ
binding two.Or = 0
binding two.And = 1
binding two.Eq = 2
binding two.Ne = 2
binding two.Lt = 2
binding two.Le = 2
binding two.Gt = 2
binding two.Ge = 2
binding two.Cat = 3
binding two.Add = 4
binding two.Mul = 5

-- an operator, if it binds so tightly
abbrev pub only_binding : ℕ → Option TwoOp → Option TwoOp
only_binding tightly None = None
only_binding tightly (Some op) = if nat_eq (binding op) tightly then Some op else None

-- the operator that is next, if it binds so tightly
abbrev pub next_two : ℕ → Option Lexeme → Option TwoOp
next_two tightly w = only_binding tightly (next_as two_of w)

-- an operator's word behind so many others of its statement
unfoldable pub operator_sign : Count → Count → Reader ℕ
operator_sign limit taken = if nat_lt taken.signs limit.signs then skip else refuse TooMany

-- an operator and the part behind it, at the right of another
abbrev pub joined : Count → ExprReader → CountedExpr → TwoOp → Reader CountedExpr
joined limit part left op = do
  at ← operator_sign limit left.1
  right ← part (one_sign left.1)
  give (two_at at op left.0 right.0, right.1)

-- [ op part ] behind a part, by the operator that is next
abbrev pub operated_by : Count → ExprReader → CountedExpr → Option TwoOp → Reader (Option CountedExpr)
operated_by limit part left None = give None
operated_by limit part left (Some op) = do
  x ← joined limit part left op
  give (Some x)

-- [ op part ] behind a part, where op binds so tightly
abbrev pub operated : ℕ → Count → ExprReader → CountedExpr → Reader (Option CountedExpr)
operated tightly limit part left = peek >>= λ w. operated_by limit part left (next_two tightly w)

-- part { op part }, grouped to the left
abbrev pub chain : ℕ → Count → ExprReader → ExprReader
chain tightly limit part taken = part taken >>= turns (operated tightly limit part)

-- a part with what is behind it, if an operator is next
abbrev pub pair_by : Count → ExprReader → CountedExpr → Option TwoOp → Reader CountedExpr
pair_by limit part left None = give left
pair_by limit part left (Some op) = joined limit part left op

-- a part with [ op part ] behind it
abbrev pub paired : ℕ → Count → ExprReader → CountedExpr → Reader CountedExpr
paired tightly limit part left = peek >>= λ w. pair_by limit part left (next_two tightly w)

-- part [ op part ]
abbrev pub pair : ℕ → Count → ExprReader → ExprReader
pair tightly limit part taken = part taken >>= paired tightly limit part

-- ---- words that open a level

-- a word that opens a level, where so many may still be opened
unfoldable pub opening : ℕ → Reader ℕ
opening zero = refuse TooMany
opening (suc levels) = skip

-- ---- atom = NAME | lit | FUNC "(" expr ")" | "(" expr ")"

-- FUNC "(" expr ")" behind its word
abbrev pub call_rest : FunOp → ExprReader → Count → ℕ → Reader CountedExpr
call_rest f inner taken at = do
  from ← sign mark.Open
  x ← inner taken
  end ← sign mark.Close
  give (expr_at at (form.Fun f x.0), x.1)

-- "(" expr ")" behind its sign
abbrev pub brackets_rest : ExprReader → Count → ℕ → Reader CountedExpr
brackets_rest inner taken at = do
  x ← inner taken
  end ← sign mark.Close
  give x

-- FUNC "(" expr ")", where inner reads an expression one level deeper
abbrev pub call : FunOp → ℕ → ExprReader → ExprReader
call f levels inner taken = opening levels >>= call_rest f inner taken

-- "(" expr ")", likewise
abbrev pub brackets : ℕ → ExprReader → ExprReader
brackets levels inner taken = opening levels >>= brackets_rest inner taken

-- the function that a word is
abbrev pub fun_of : Lexeme → Option FunOp
fun_of (lex.Key key.Num) = Some fun.Num
fun_of (lex.Key key.Dist) = Some fun.Dist
fun_of (lex.Key key.Len) = Some fun.Len
fun_of (lex.Key key.Path) = Some fun.Path
fun_of (lex.Key key.Text) = Some fun.Text
fun_of w = None

-- a function's call, or a literal without a function
abbrev pub call_by : ℕ → ExprReader → Count → Option FunOp → Reader CountedExpr
call_by levels inner taken (Some f) = call f levels inner taken
call_by levels inner taken None = do
  x ← lit
  give (expr_at x.at (literal_form x.value), taken)

-- atom, by the word that is next
abbrev pub atom_by : ℕ → ExprReader → Count → Option Lexeme → Reader CountedExpr
atom_by levels inner taken (Some (lex.Name n)) = do
  x ← name
  give (expr_at x.at (form.Column x.name), taken)
atom_by levels inner taken (Some (lex.Sign mark.Open)) = brackets levels inner taken
atom_by levels inner taken w = call_by levels inner taken (next_as fun_of w)

-- atom, where inner reads an expression one level deeper
abbrev pub atom_with : ℕ → ExprReader → ExprReader
atom_with levels inner taken = peek >>= atom_by levels inner taken

-- ---- the rules of operators, over an atom

-- prod = atom { "*" atom }
abbrev pub product_with : Count → ExprReader → ExprReader
product_with limit atom = chain (binding two.Mul) limit atom

-- sum = prod { "+" prod }
abbrev pub sum_with : Count → ExprReader → ExprReader
sum_with limit atom = chain (binding two.Add) limit (product_with limit atom)

-- cat = sum { "++" sum }
abbrev pub cat_with : Count → ExprReader → ExprReader
cat_with limit atom = chain (binding two.Cat) limit (sum_with limit atom)

-- cmp = cat [ ( "==" | "!=" | "<" | "<=" | ">" | ">=" ) cat ]
abbrev pub comparison_with : Count → ExprReader → ExprReader
comparison_with limit atom = pair (binding two.Eq) limit (cat_with limit atom)

-- ---- not = "not" not | cmp

-- "not" not behind its word
abbrev pub negated_rest : ExprReader → Count → ℕ → Reader CountedExpr
negated_rest operand taken at = do
  x ← operand taken
  give (expr_at at (form.Not x.0), x.1)

-- "not" not, where operand reads one a level deeper
abbrev pub negated : ℕ → ExprReader → ExprReader
negated levels operand taken = opening levels >>= negated_rest operand taken

-- not, by the word that is next
abbrev pub negation_by : ℕ → ExprReader → ExprReader → Count → Option Lexeme → Reader CountedExpr
negation_by levels operand comparison taken (Some (lex.Key key.Not)) = negated levels operand taken
negation_by levels operand comparison taken w = comparison taken

-- not, where operand reads one a level deeper
abbrev pub negation_with : ℕ → ExprReader → ExprReader → ExprReader
negation_with levels operand comparison taken = peek >>= negation_by levels operand comparison taken

-- and = not { "and" not }
abbrev pub conjunction_with : Count → ExprReader → ExprReader
conjunction_with limit negation = chain (binding two.And) limit negation

-- or = and { "or" and }
abbrev pub disjunction_with : Count → ExprReader → ExprReader
disjunction_with limit negation = chain (binding two.Or) limit (conjunction_with limit negation)

-- ---- expr = "if" expr "then" expr "else" expr | or

-- "if" expr "then" expr "else" expr behind its word
abbrev pub branches_rest : ExprReader → Count → ℕ → Reader CountedExpr
branches_rest inner taken at = do
  c ← inner taken
  from ← keyword key.Then
  x ← inner c.1
  to ← keyword key.Else
  y ← inner x.1
  give (expr_at at (form.If c.0 x.0 y.0), y.1)

-- "if" expr "then" expr "else" expr, where inner reads an expression one level deeper
abbrev pub branches : ℕ → ExprReader → ExprReader
branches levels inner taken = opening levels >>= branches_rest inner taken

-- expr, by the word that is next
abbrev pub expr_by : ℕ → ExprReader → ExprReader → Count → Option Lexeme → Reader CountedExpr
expr_by levels inner disjunction taken (Some (lex.Key key.If)) = branches levels inner taken
expr_by levels inner disjunction taken w = disjunction taken

-- expr, where inner reads one a level deeper
abbrev pub expr_with : ℕ → ExprReader → ExprReader → ExprReader
expr_with levels inner disjunction taken = peek >>= expr_by levels inner disjunction taken

-- ---- levels

-- An expression and the operand of a `not`, a level deeper than where so many may still be opened. With none left nothing is:
-- the word that would open it is refused.
unfoldable mutual
  pub deeper_expr : Count → ℕ → ExprReader
  deeper_expr limit zero taken = refuse TooMany
  deeper_expr limit (suc levels) taken = expr_with levels (deeper_expr limit levels) (disjunction_with limit (negation_with levels (deeper_not limit levels) (comparison_with limit (atom_with levels (deeper_expr limit levels))))) taken

  pub deeper_not : Count → ℕ → ExprReader
  deeper_not limit zero taken = refuse TooMany
  deeper_not limit (suc levels) taken = negation_with levels (deeper_not limit levels) (comparison_with limit (atom_with levels (deeper_expr limit levels))) taken

-- Each rule. A statement may have so much of what is counted as limit says, and so many levels may still be opened; taken was
-- counted before it.
unfoldable pub atom : Count → ℕ → ExprReader
atom limit levels taken = atom_with levels (deeper_expr limit levels) taken

-- cmp
unfoldable pub comparison : Count → ℕ → ExprReader
comparison limit levels taken = comparison_with limit (atom limit levels) taken

-- not
unfoldable pub negation : Count → ℕ → ExprReader
negation limit levels taken = negation_with levels (deeper_not limit levels) (comparison limit levels) taken

-- or
unfoldable pub disjunction : Count → ℕ → ExprReader
disjunction limit levels taken = disjunction_with limit (negation limit levels) taken

-- what stands between operators that bind so tightly
unfoldable pub part : Count → ℕ → ℕ → ExprReader
part limit levels zero taken = conjunction_with limit (negation limit levels) taken
part limit levels (suc zero) taken = negation limit levels taken
part limit levels (suc (suc zero)) taken = cat_with limit (atom limit levels) taken
part limit levels (suc (suc (suc zero))) taken = sum_with limit (atom limit levels) taken
part limit levels (suc (suc (suc (suc zero)))) taken = product_with limit (atom limit levels) taken
part limit levels tightly taken = atom limit levels taken

-- an expression
unfoldable pub expr : Count → ℕ → ExprReader
expr limit levels taken = expr_with levels (deeper_expr limit levels) (disjunction limit levels) taken
