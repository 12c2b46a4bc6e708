-- The types of expressions over the columns of a table.
use Rattle.std.specs.Prelude.{◌≡◌, ◌<◌, ℕ, Bool, true, false, ◌&&◌, nat_lt, List, [], ◌∷◌, Option, Some, None, Result, Ok, Err, if◌then◌else◌}
use Rattle.std.specs.Option.{option_or}
use Rattle.lara_base.specs.Results.{◌>>=◌}
use Rattle.lara_base.specs.Texts.{is_content}
use Rattle.lara_key.specs.declared.key.KeyType.{KeyType}
use Rattle.lara_key.specs.declared.key.KeyType.TheVariants as key_type
use Rattle.lara_semiring.specs.Counts.{count_over}
use Rattle.lara_semiring.specs.declared.value.ValType.{ValType}
use Rattle.lara_semiring.specs.declared.value.ValType.TheVariants as val_type
use Rattle.lara_data.specs.declared.expr.Expr.{Expr}
use Rattle.lara_data.specs.declared.expr.Expr.TheBlock.{end_of-Expr, more_of-Expr}
use Rattle.lara_data.specs.declared.expr.Expr.TheVariants as expr
use Rattle.lara_data.specs.declared.expr.Expr.TheVariants.{Two', Not', If', Fun'}
use Rattle.lara_data.specs.declared.expr.TwoOp.{TwoOp}
use Rattle.lara_data.specs.declared.expr.TwoOp.TheVariants as two
use Rattle.lara_data.specs.declared.expr.FunOp.{FunOp}
use Rattle.lara_data.specs.declared.expr.FunOp.TheVariants as fun
use Rattle.lara_data.specs.declared.expr_val.ExprType.{ExprType}
use Rattle.lara_data.specs.declared.expr_val.ExprType.TheVariants.{Number, MinPlus, Text, Path, Flag}
use Rattle.lara_data.specs.declared.refusal.Kind.{Kind}
use Rattle.lara_data.specs.declared.refusal.Kind.TheVariants.{NoName, NotInRange, TypesDiffer}
use Rattle.lara_data.specs.declared.table_type.KeyCol.{KeyCol}
use Rattle.lara_data.specs.declared.table_type.ValCol.{ValCol}
use Rattle.lara_data.specs.TableTypes.{Columns}
use Rattle.lara_data.specs.Names.{Name, same_name}

-- ---- columns

-- the type that a key column reads as
abbrev pub key_expr_type : KeyType → ExprType
key_expr_type key_type.Nat = Number
key_expr_type key_type.Text = Text
key_expr_type key_type.Flag = Flag

-- the type that a value column reads as
abbrev pub val_expr_type : ValType → ExprType
val_expr_type val_type.Count = Number
val_expr_type val_type.MinPlus = MinPlus
val_expr_type val_type.MaxMin = Number
val_expr_type val_type.Flag = Flag
val_expr_type val_type.Last = Text
val_expr_type val_type.Path = Path

-- the types are one
abbrev pub same_expr_type : ExprType → ExprType → Bool
same_expr_type Number Number = true
same_expr_type MinPlus MinPlus = true
same_expr_type Text Text = true
same_expr_type Path Path = true
same_expr_type Flag Flag = true
same_expr_type t u = false

-- what the key column of the name reads as, if there is one
unfoldable pub key_column_type : List KeyCol → Name → Option ExprType
key_column_type [] n = None
key_column_type (k ∷ keys) n = if same_name n k.name then Some (key_expr_type k.ty) else key_column_type keys n

-- what the value column of the name reads as, if there is one
unfoldable pub val_column_type : List ValCol → Name → Option ExprType
val_column_type [] n = None
val_column_type (v ∷ vals) n = if same_name n v.name then Some (val_expr_type v.ty) else val_column_type vals n

-- what the column of the name reads as, if there is one
abbrev pub column_type : Columns → Name → Option ExprType
column_type c n = option_or (key_column_type c.keys n) (val_column_type c.vals n)

-- ---- operators and functions

-- what an operator makes of two sides of a type, if it takes them
abbrev pub two_type : TwoOp → ExprType → Option ExprType
two_type two.Or Flag = Some Flag
two_type two.And Flag = Some Flag
two_type two.Eq t = Some Flag
two_type two.Ne t = Some Flag
two_type two.Lt t = Some Flag
two_type two.Le t = Some Flag
two_type two.Gt t = Some Flag
two_type two.Ge t = Some Flag
two_type two.Cat Text = Some Text
two_type two.Add Number = Some Number
two_type two.Add MinPlus = Some MinPlus
two_type two.Add Path = Some Path
two_type two.Mul Number = Some Number
two_type two.Mul MinPlus = Some MinPlus
two_type two.Mul Path = Some Path
two_type o t = None

-- what an operator makes of its sides, which are of one type
abbrev pub sides_type : TwoOp → ExprType → ExprType → Option ExprType
sides_type o t u = if same_expr_type t u then two_type o t else None

-- what `not` makes of its side
abbrev pub not_type : ExprType → Option ExprType
not_type Flag = Some Flag
not_type t = None

-- what an `if` makes of a flag and of two branches of one type
abbrev pub branches_type : ExprType → ExprType → ExprType → Option ExprType
branches_type c t u = if same_expr_type c Flag && same_expr_type t u then Some t else None

-- what a function makes of a type, if it takes it
abbrev pub fun_type : FunOp → ExprType → Option ExprType
fun_type fun.Num MinPlus = Some Number
fun_type fun.Num Flag = Some Number
fun_type fun.Dist Number = Some MinPlus
fun_type fun.Len Text = Some Number
fun_type fun.Path Text = Some Path
fun_type fun.Text Path = Some Text
fun_type f t = None

-- ---- expressions

-- the type of an expression, or the kind of the first rule that is broken
abbrev pub ExprTyping : Type 0
ExprTyping = Result ExprType Kind

-- the type, or a refusal of this kind where there is none
abbrev pub type_or : Kind → Option ExprType → ExprTyping
type_or kind None = Err kind
type_or kind (Some t) = Ok t

-- The type of an expression: its parts first, left to right, and then its own rule. A column is one of the table's; a
-- number is below what stands for all past the range, and a text has at most 1,024 bytes.
unfoldable pub expr_type : Columns → Expr → ExprTyping
expr_type c (expr.Column n) = type_or NoName (column_type c n)
expr_type c (expr.Number n) = if nat_lt n count_over then Ok Number else Err NotInRange
expr_type c (expr.Text bs) = if is_content bs then Ok Text else Err NotInRange
expr_type c (expr.Flag b) = Ok Flag
expr_type c expr.Inf = Ok MinPlus
expr_type c expr.None = Ok Path
expr_type c (Two' o _ (more_of-Expr a end_of-Expr) _ (more_of-Expr b end_of-Expr)) = do
  t ← expr_type c a
  u ← expr_type c b
  type_or TypesDiffer (sides_type o t u)
expr_type c (Not' _ (more_of-Expr a end_of-Expr)) = do
  t ← expr_type c a
  type_or TypesDiffer (not_type t)
expr_type c (If' _ (more_of-Expr z end_of-Expr) _ (more_of-Expr a end_of-Expr) _ (more_of-Expr b end_of-Expr)) = do
  s ← expr_type c z
  t ← expr_type c a
  u ← expr_type c b
  type_or TypesDiffer (branches_type s t u)
expr_type c (Fun' f _ (more_of-Expr a end_of-Expr)) = do
  t ← expr_type c a
  type_or TypesDiffer (fun_type f t)

-- The same with no order of rules: which expressions are of which type.
pub data ExprHas (c : Columns) : Expr → ExprType → Type 0 where
  column : (n : Name) (t : ExprType) → column_type c n ≡ Some t → ExprHas c (expr.Column n) t
  number : (n : ℕ) → n < count_over → ExprHas c (expr.Number n) Number
  text : (bs : List ℕ) → is_content bs ≡ true → ExprHas c (expr.Text bs) Text
  flag : (b : Bool) → ExprHas c (expr.Flag b) Flag
  inf : ExprHas c expr.Inf MinPlus
  none : ExprHas c expr.None Path
  sides : (o : TwoOp) (a b : Expr) (t u : ExprType) → ExprHas c a t → ExprHas c b t → two_type o t ≡ Some u → ExprHas c (expr.Two o a b) u
  turned : (a : Expr) → ExprHas c a Flag → ExprHas c (expr.Not a) Flag
  branches : (z a b : Expr) (t : ExprType) → ExprHas c z Flag → ExprHas c a t → ExprHas c b t → ExprHas c (expr.If z a b) t
  called : (f : FunOp) (a : Expr) (t u : ExprType) → ExprHas c a t → fun_type f t ≡ Some u → ExprHas c (expr.Fun f a) u
