-- The grammar of expressions: which words stand for which tree. Operators group to the left: what stands before the last
-- operator of a rule is one side of it.
use Rattle.std.specs.Prelude.{ℕ, suc}
use Rattle.lara_data.specs.declared.expr.TwoOp.{TwoOp}
use Rattle.lara_data.specs.declared.expr.TwoOp.TheVariants as two
use Rattle.lara_data.specs.declared.expr.FunOp.{FunOp}
use Rattle.lara_data.specs.declared.expr.FunOp.TheVariants as fun
use Rattle.lara_syntax.specs.declared.item.Keyword.{Keyword}
use Rattle.lara_syntax.specs.declared.item.Keyword.TheVariants as key
use Rattle.lara_syntax.specs.declared.item.Sign.{Sign}
use Rattle.lara_syntax.specs.declared.item.Sign.TheVariants as sign
use Rattle.lara_syntax.specs.declared.count.Count.{Count}
use Rattle.lara_syntax.specs.declared.ast.AstName.{AstName}
use Rattle.lara_syntax.specs.declared.ast.AstLit.{AstLit}
use Rattle.lara_syntax.specs.declared.ast.AstValue.{AstValue}
use Rattle.lara_syntax.specs.declared.ast.AstValue.TheVariants as val
use Rattle.lara_syntax.specs.declared.ast_expr.AstExpr.{AstExpr}
use Rattle.lara_syntax.specs.declared.ast_expr.AstForm.{AstForm}
use Rattle.lara_syntax.specs.declared.ast_expr.AstForm.TheVariants as form
use Rattle.lara_syntax.specs.WordGrammar.{Mark, Key, Named, Lit}
use Rattle.lara_syntax.specs.Limits.{none_counted, one_sign, together}
use Rattle.lara_syntax.specs.Steps.{Items}

-- an expression at its place
abbrev pub expr_at : ℕ → AstForm → AstExpr
expr_at at f = record { at = at; form = f }

-- two parts under an operator, at the operator's place
abbrev pub two_at : ℕ → TwoOp → AstExpr → AstExpr → AstExpr
two_at at what a b = expr_at at (form.Two what a b)

-- a literal as an expression
abbrev pub literal_form : AstValue → AstForm
literal_form (val.Number n) = form.Number n
literal_form (val.Text content) = form.Text content
literal_form (val.Flag b) = form.Flag b
literal_form val.Inf = form.Inf
literal_form val.None = form.None

-- the word of a function: "num" | "dist" | "len" | "path" | "text"
abbrev pub fun_word : FunOp → Keyword
fun_word fun.Num = key.Num
fun_word fun.Dist = key.Dist
fun_word fun.Len = key.Len
fun_word fun.Path = key.Path
fun_word fun.Text = key.Text

-- "==" | "!=" | "<" | "<=" | ">" | ">="
pub data Comparison : TwoOp → Sign → Type 0 where
  equal : Comparison two.Eq sign.Equal
  not_equal : Comparison two.Ne sign.NotEqual
  less : Comparison two.Lt sign.Less
  less_equal : Comparison two.Le sign.LessEqual
  greater : Comparison two.Gt sign.Greater
  greater_equal : Comparison two.Ge sign.GreaterEqual

-- A number: how many levels may be opened, which `(`, a function's word, `not` and `if` do. A count: the operators between two parts.
mutual
  -- atom = NAME | lit | FUNC "(" expr ")" | "(" expr ")"
  pub data Atom : ℕ → Count → AstExpr → Items → Items → Type 0 where
    column : (d : ℕ) (x : AstName) (ts rest : Items) → Named x ts rest → Atom d none_counted (expr_at x.at (form.Column x.name)) ts rest
    literal : (d : ℕ) (x : AstLit) (ts rest : Items) → Lit x ts rest → Atom d none_counted (expr_at x.at (literal_form x.value)) ts rest
    function : (d : ℕ) (n : Count) (at a b : ℕ) (f : FunOp) (x : AstExpr) (t1 t2 t3 t4 rest : Items)
        → Key (fun_word f) at t1 t2 → Mark sign.Open a t2 t3 → Expr d n x t3 t4 → Mark sign.Close b t4 rest
        → Atom (suc d) n (expr_at at (form.Fun f x)) t1 rest
    inside : (d : ℕ) (n : Count) (a b : ℕ) (x : AstExpr) (t1 t2 t3 rest : Items)
        → Mark sign.Open a t1 t2 → Expr d n x t2 t3 → Mark sign.Close b t3 rest
        → Atom (suc d) n x t1 rest

  -- prod = atom { "*" atom }
  pub data Prod : ℕ → Count → AstExpr → Items → Items → Type 0 where
    atom : (d : ℕ) (n : Count) (x : AstExpr) (ts rest : Items) → Atom d n x ts rest → Prod d n x ts rest
    times : (d : ℕ) (m n : Count) (at : ℕ) (a b : AstExpr) (t1 t2 t3 rest : Items)
        → Prod d m a t1 t2 → Mark sign.Times at t2 t3 → Atom d n b t3 rest
        → Prod d (one_sign (together m n)) (two_at at two.Mul a b) t1 rest

  -- sum = prod { "+" prod }
  pub data Sum : ℕ → Count → AstExpr → Items → Items → Type 0 where
    prod : (d : ℕ) (n : Count) (x : AstExpr) (ts rest : Items) → Prod d n x ts rest → Sum d n x ts rest
    plus : (d : ℕ) (m n : Count) (at : ℕ) (a b : AstExpr) (t1 t2 t3 rest : Items)
        → Sum d m a t1 t2 → Mark sign.Plus at t2 t3 → Prod d n b t3 rest
        → Sum d (one_sign (together m n)) (two_at at two.Add a b) t1 rest

  -- cat = sum { "++" sum }
  pub data Cat : ℕ → Count → AstExpr → Items → Items → Type 0 where
    sum : (d : ℕ) (n : Count) (x : AstExpr) (ts rest : Items) → Sum d n x ts rest → Cat d n x ts rest
    plus_plus : (d : ℕ) (m n : Count) (at : ℕ) (a b : AstExpr) (t1 t2 t3 rest : Items)
        → Cat d m a t1 t2 → Mark sign.PlusPlus at t2 t3 → Sum d n b t3 rest
        → Cat d (one_sign (together m n)) (two_at at two.Cat a b) t1 rest

  -- cmp = cat [ ( "==" | "!=" | "<" | "<=" | ">" | ">=" ) cat ]
  pub data Cmp : ℕ → Count → AstExpr → Items → Items → Type 0 where
    cat : (d : ℕ) (n : Count) (x : AstExpr) (ts rest : Items) → Cat d n x ts rest → Cmp d n x ts rest
    compared : (d : ℕ) (m n : Count) (at : ℕ) (what : TwoOp) (m' : Sign) (a b : AstExpr) (t1 t2 t3 rest : Items) → Comparison what m'
        → Cat d m a t1 t2 → Mark m' at t2 t3 → Cat d n b t3 rest
        → Cmp d (one_sign (together m n)) (two_at at what a b) t1 rest

  -- not = "not" not | cmp
  pub data Not : ℕ → Count → AstExpr → Items → Items → Type 0 where
    cmp : (d : ℕ) (n : Count) (x : AstExpr) (ts rest : Items) → Cmp d n x ts rest → Not d n x ts rest
    negated : (d : ℕ) (n : Count) (at : ℕ) (x : AstExpr) (t1 t2 rest : Items)
        → Key key.Not at t1 t2 → Not d n x t2 rest
        → Not (suc d) n (expr_at at (form.Not x)) t1 rest

  -- and = not { "and" not }
  pub data And : ℕ → Count → AstExpr → Items → Items → Type 0 where
    lone_not : (d : ℕ) (n : Count) (x : AstExpr) (ts rest : Items) → Not d n x ts rest → And d n x ts rest
    and : (d : ℕ) (m n : Count) (at : ℕ) (a b : AstExpr) (t1 t2 t3 rest : Items)
        → And d m a t1 t2 → Key key.And at t2 t3 → Not d n b t3 rest
        → And d (one_sign (together m n)) (two_at at two.And a b) t1 rest

  -- or = and { "or" and }
  pub data Or : ℕ → Count → AstExpr → Items → Items → Type 0 where
    lone_and : (d : ℕ) (n : Count) (x : AstExpr) (ts rest : Items) → And d n x ts rest → Or d n x ts rest
    or : (d : ℕ) (m n : Count) (at : ℕ) (a b : AstExpr) (t1 t2 t3 rest : Items)
        → Or d m a t1 t2 → Key key.Or at t2 t3 → And d n b t3 rest
        → Or d (one_sign (together m n)) (two_at at two.Or a b) t1 rest

  -- expr = "if" expr "then" expr "else" expr | or
  pub data Expr : ℕ → Count → AstExpr → Items → Items → Type 0 where
    lone_or : (d : ℕ) (n : Count) (x : AstExpr) (ts rest : Items) → Or d n x ts rest → Expr d n x ts rest
    branches : (d : ℕ) (l m n : Count) (at a b : ℕ) (c x y : AstExpr) (t1 t2 t3 t4 t5 t6 rest : Items)
        → Key key.If at t1 t2 → Expr d l c t2 t3 → Key key.Then a t3 t4 → Expr d m x t4 t5 → Key key.Else b t5 t6 → Expr d n y t6 rest
        → Expr (suc d) (together l (together m n)) (expr_at at (form.If c x y)) t1 rest
