-- What the type of an expression is, and what an expression comes to.
use Rattle.std.specs.Prelude.{◌≡◌, not, cond, ℕ, Bool, List, nat_lt, Ok, Err}
use Rattle.std.proofs.Common.{refl}
use Rattle.lara_base.specs.Results.{◌>>=◌}
use Rattle.lara_base.specs.Texts.{is_content}
use Rattle.lara_base.specs.declared.text.Text.TheVariants as text
use Rattle.lara_semiring.specs.Counts.{count_over}
use Rattle.lara_semiring.specs.MinPlus.{minplus_inf}
use Rattle.lara_semiring.specs.declared.path.PathText.TheVariants as path
use Rattle.lara_data.specs.declared.expr.Expr.{Expr}
use Rattle.lara_data.specs.declared.expr.Expr.TheVariants as expr
use Rattle.lara_data.specs.declared.expr.TwoOp.{TwoOp}
use Rattle.lara_data.specs.declared.expr.FunOp.{FunOp}
use Rattle.lara_data.specs.declared.expr_val.ExprType.TheVariants as type
use Rattle.lara_data.specs.declared.expr_val.ExprVal.TheVariants as val
use Rattle.lara_data.specs.declared.refusal.Kind.TheVariants.{NoName, NotInRange, TypesDiffer}
use Rattle.lara_data.specs.KeyedTables.{Row}
use Rattle.lara_data.specs.TableTypes.{Columns}
use Rattle.lara_data.specs.Names.{Name, Tuple}
use Rattle.lara_data.specs.ExprTypes.{column_type, sides_type, not_type, branches_type, fun_type, type_or, expr_type}
use Rattle.lara_data.specs.ExprValues.{entry_column, is_true, two_value, fun_value, value_of}

-- ---- types

pub expr_type_Column : (c : Columns) (n : Name) → expr_type c (expr.Column n) ≡ type_or NoName (column_type c n)
unfolding expr_type
expr_type_Column c n = refl

pub expr_type_Number : (c : Columns) (n : ℕ) → expr_type c (expr.Number n) ≡ cond (nat_lt n count_over) (Ok type.Number) (Err NotInRange)
unfolding expr_type
expr_type_Number c n = refl

pub expr_type_Text : (c : Columns) (bs : List ℕ) → expr_type c (expr.Text bs) ≡ cond (is_content bs) (Ok type.Text) (Err NotInRange)
unfolding expr_type
expr_type_Text c bs = refl

pub expr_type_Flag : (c : Columns) (b : Bool) → expr_type c (expr.Flag b) ≡ Ok type.Flag
unfolding expr_type
expr_type_Flag c b = refl

pub expr_type_Inf : (c : Columns) → expr_type c expr.Inf ≡ Ok type.MinPlus
unfolding expr_type
expr_type_Inf c = refl

pub expr_type_None : (c : Columns) → expr_type c expr.None ≡ Ok type.Path
unfolding expr_type
expr_type_None c = refl

pub expr_type_Two : (c : Columns) (o : TwoOp) (a b : Expr) → expr_type c (expr.Two o a b) ≡ (expr_type c a >>= λ t. expr_type c b >>= λ u. type_or TypesDiffer (sides_type o t u))
unfolding expr_type Rattle.lara_data.specs.declared.expr.Expr.TheBlock.hidden-the_row-Expr-0 denote.Hole.Carrier.hidden
expr_type_Two c o a b = refl

pub expr_type_Not : (c : Columns) (a : Expr) → expr_type c (expr.Not a) ≡ (expr_type c a >>= λ t. type_or TypesDiffer (not_type t))
unfolding expr_type Rattle.lara_data.specs.declared.expr.Expr.TheBlock.hidden-the_row-Expr-0 denote.Hole.Carrier.hidden
expr_type_Not c a = refl

pub expr_type_If : (c : Columns) (z a b : Expr) → expr_type c (expr.If z a b) ≡ (expr_type c z >>= λ s. expr_type c a >>= λ t. expr_type c b >>= λ u. type_or TypesDiffer (branches_type s t u))
unfolding expr_type Rattle.lara_data.specs.declared.expr.Expr.TheBlock.hidden-the_row-Expr-0 denote.Hole.Carrier.hidden
expr_type_If c z a b = refl

pub expr_type_Fun : (c : Columns) (f : FunOp) (a : Expr) → expr_type c (expr.Fun f a) ≡ (expr_type c a >>= λ t. type_or TypesDiffer (fun_type f t))
unfolding expr_type Rattle.lara_data.specs.declared.expr.Expr.TheBlock.hidden-the_row-Expr-0 denote.Hole.Carrier.hidden
expr_type_Fun c f a = refl

pub ruleset expr_type_rules = (expr_type_Column, expr_type_Number, expr_type_Text, expr_type_Flag, expr_type_Inf, expr_type_None, expr_type_Two, expr_type_Not, expr_type_If, expr_type_Fun)

-- ---- values

pub value_of_Column : (c : Columns) (k : Tuple) (row : Row) (n : Name) → value_of c k row (expr.Column n) ≡ entry_column c k row n
unfolding value_of
value_of_Column c k row n = refl

pub value_of_Number : (c : Columns) (k : Tuple) (row : Row) (n : ℕ) → value_of c k row (expr.Number n) ≡ val.Number n
unfolding value_of
value_of_Number c k row n = refl

pub value_of_Text : (c : Columns) (k : Tuple) (row : Row) (bs : List ℕ) → value_of c k row (expr.Text bs) ≡ val.Text (text.Within bs)
unfolding value_of
value_of_Text c k row bs = refl

pub value_of_Flag : (c : Columns) (k : Tuple) (row : Row) (b : Bool) → value_of c k row (expr.Flag b) ≡ val.Flag b
unfolding value_of
value_of_Flag c k row b = refl

pub value_of_Inf : (c : Columns) (k : Tuple) (row : Row) → value_of c k row expr.Inf ≡ val.MinPlus minplus_inf
unfolding value_of
value_of_Inf c k row = refl

pub value_of_None : (c : Columns) (k : Tuple) (row : Row) → value_of c k row expr.None ≡ val.Path path.Absent
unfolding value_of
value_of_None c k row = refl

pub value_of_Two : (c : Columns) (k : Tuple) (row : Row) (o : TwoOp) (a b : Expr) → value_of c k row (expr.Two o a b) ≡ two_value o (value_of c k row a) (value_of c k row b)
unfolding value_of Rattle.lara_data.specs.declared.expr.Expr.TheBlock.hidden-the_row-Expr-0 denote.Hole.Carrier.hidden
value_of_Two c k row o a b = refl

pub value_of_Not : (c : Columns) (k : Tuple) (row : Row) (a : Expr) → value_of c k row (expr.Not a) ≡ val.Flag (not (is_true (value_of c k row a)))
unfolding value_of Rattle.lara_data.specs.declared.expr.Expr.TheBlock.hidden-the_row-Expr-0 denote.Hole.Carrier.hidden
value_of_Not c k row a = refl

pub value_of_If : (c : Columns) (k : Tuple) (row : Row) (z a b : Expr) → value_of c k row (expr.If z a b) ≡ cond (is_true (value_of c k row z)) (value_of c k row a) (value_of c k row b)
unfolding value_of Rattle.lara_data.specs.declared.expr.Expr.TheBlock.hidden-the_row-Expr-0 denote.Hole.Carrier.hidden
value_of_If c k row z a b = refl

pub value_of_Fun : (c : Columns) (k : Tuple) (row : Row) (f : FunOp) (a : Expr) → value_of c k row (expr.Fun f a) ≡ fun_value f (value_of c k row a)
unfolding value_of Rattle.lara_data.specs.declared.expr.Expr.TheBlock.hidden-the_row-Expr-0 denote.Hole.Carrier.hidden
value_of_Fun c k row f a = refl

pub ruleset value_rules = (value_of_Column, value_of_Number, value_of_Text, value_of_Flag, value_of_Inf, value_of_None, value_of_Two, value_of_Not, value_of_If, value_of_Fun)
