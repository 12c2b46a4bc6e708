-- What an expression comes to, over the columns, the key and the row of an entry. Each is defined on all values, also past
-- their range; where a side is of a type that no typed expression has there, it is some value.
use Rattle.std.specs.Prelude.{Bool, true, false, not, cond, ◌&&◌, ◌||◌, nat_le, nat_lt, min, [], ◌∷◌, ◌++◌, length, if◌then◌else◌}
use Rattle.std.specs.declared.cmp.Ordering.{Ordering}
use Rattle.std.specs.declared.cmp.Ordering.TheVariants.{Equal}
use Rattle.std.specs.Ordering.{nat_cmp, bool_cmp, is_eq, is_ne, is_lt, is_le, is_gt, is_ge}
use Rattle.lara_base.specs.Texts.{text_cmp, is_text}
use Rattle.lara_base.specs.declared.text.Text.{Text as TextVal}
use Rattle.lara_base.specs.declared.text.Text.TheVariants as text
use Rattle.lara_key.specs.declared.key.KeyType.{KeyType}
use Rattle.lara_key.specs.declared.key.KeyType.TheVariants as key_type
use Rattle.lara_key.specs.declared.key.KeyVal.{KeyVal}
use Rattle.lara_key.specs.declared.key.KeyVal.TheVariants as key
use Rattle.lara_semiring.specs.Counts.{count_over, count_plus, count_times}
use Rattle.lara_semiring.specs.MinPlus.{minplus_over, minplus_inf, minplus_plus, minplus_times}
use Rattle.lara_semiring.specs.Paths.{path_cmp, path_plus, path_times, is_path}
use Rattle.lara_semiring.specs.Rows.{first, rest}
use Rattle.lara_semiring.specs.Values.{value_zero}
use Rattle.lara_semiring.specs.declared.path.PathText.TheVariants as path
use Rattle.lara_semiring.specs.declared.value.ValType.{ValType}
use Rattle.lara_semiring.specs.declared.value.ValType.TheVariants as val_type
use Rattle.lara_semiring.specs.declared.value.Value.{Value}
use Rattle.lara_semiring.specs.declared.value.Value.TheVariants as value
use Rattle.lara_data.specs.declared.expr.Expr.{Expr}
use Rattle.lara_data.specs.declared.expr.Expr.TheBlock.{end_of-Expr, more_of-Expr}
use Rattle.lara_data.specs.declared.expr.Expr.TheVariants as expr
use Rattle.lara_data.specs.declared.expr.Expr.TheVariants.{Two', Not', If', Fun'}
use Rattle.lara_data.specs.declared.expr.TwoOp.{TwoOp}
use Rattle.lara_data.specs.declared.expr.TwoOp.TheVariants as two
use Rattle.lara_data.specs.declared.expr.FunOp.{FunOp}
use Rattle.lara_data.specs.declared.expr.FunOp.TheVariants as fun
use Rattle.lara_data.specs.declared.expr_val.ExprType.{ExprType}
use Rattle.lara_data.specs.declared.expr_val.ExprType.TheVariants as type
use Rattle.lara_data.specs.declared.expr_val.ExprVal.{ExprVal}
use Rattle.lara_data.specs.declared.expr_val.ExprVal.TheVariants.{Number, MinPlus, Text, Path, Flag}
use Rattle.lara_data.specs.KeyedTables.{Row}
use Rattle.lara_data.specs.TableTypes.{Columns, key_names}
use Rattle.lara_data.specs.Names.{Name, Tuple, same_name, has, read}
use Rattle.lara_data.specs.Vals.{Vals}

-- the value is one of the type, or stands for all past its range
abbrev pub is_expr_val : ExprType → ExprVal → Bool
is_expr_val type.Number (Number n) = nat_le n count_over
is_expr_val type.MinPlus (MinPlus n) = nat_le n minplus_inf
is_expr_val type.Text (Text t) = is_text t
is_expr_val type.Path (Path p) = is_path p
is_expr_val type.Flag (Flag b) = true
is_expr_val t v = false

-- ---- columns

-- what a column of a key reads as
abbrev pub of_key : KeyVal → ExprVal
of_key (key.Nat n) = Number n
of_key (key.Text t) = Text t
of_key (key.Flag b) = Flag b

-- what a value reads as
abbrev pub of_val : Value → ExprVal
of_val (value.Count n) = Number n
of_val (value.MinPlus n) = MinPlus n
of_val (value.MaxMin n) = Number n
of_val (value.Flag b) = Flag b
of_val (value.Last t) = Text t
of_val (value.Path p) = Path p

-- what a row has in the value column of the name
unfoldable pub row_column : Vals → Row → Name → ExprVal
row_column [] row n = Number 0
row_column (v ∷ vals) row n = if same_name n v.name then of_val (first v.ty row) else row_column vals (rest row) n

-- what an entry has in the column of the name
abbrev pub entry_column : Columns → Tuple → Row → Name → ExprVal
entry_column c k row n = if has (key_names c.keys) n then of_key (read (key_names c.keys) k n) else row_column c.vals row n

-- ---- operators

-- the value is true
abbrev pub is_true : ExprVal → Bool
is_true (Flag b) = b
is_true v = false

-- how two values of a type compare: numbers and distances by their size, texts and paths by their orders, false before true
abbrev pub expr_cmp : ExprVal → ExprVal → Ordering
expr_cmp (Number a) (Number b) = nat_cmp a b
expr_cmp (MinPlus a) (MinPlus b) = nat_cmp a b
expr_cmp (Text a) (Text b) = text_cmp a b
expr_cmp (Path a) (Path b) = path_cmp a b
expr_cmp (Flag a) (Flag b) = bool_cmp a b
expr_cmp a b = Equal

-- the sum of two numbers, as counts; the lesser of two distances, and of two paths
abbrev pub expr_plus : ExprVal → ExprVal → ExprVal
expr_plus (Number a) (Number b) = Number (count_plus a b)
expr_plus (MinPlus a) (MinPlus b) = MinPlus (minplus_plus a b)
expr_plus (Path a) (Path b) = Path (path_plus a b)
expr_plus a b = a

-- the product of two numbers, as counts; two distances one after the other, and two paths
abbrev pub expr_times : ExprVal → ExprVal → ExprVal
expr_times (Number a) (Number b) = Number (count_times a b)
expr_times (MinPlus a) (MinPlus b) = MinPlus (minplus_times a b)
expr_times (Path a) (Path b) = Path (path_times a b)
expr_times a b = a

-- the second text behind the first, or `over` past 1,024 bytes or where one is `over`
abbrev pub text_cat : TextVal → TextVal → TextVal
text_cat (text.Within a) (text.Within b) = cond (nat_le (length (a ++ b)) 1024) (text.Within (a ++ b)) text.Over
text_cat a b = text.Over

-- two texts, one behind the other
abbrev pub expr_cat : ExprVal → ExprVal → ExprVal
expr_cat (Text a) (Text b) = Text (text_cat a b)
expr_cat a b = a

-- an operator of two sides
abbrev pub two_value : TwoOp → ExprVal → ExprVal → ExprVal
two_value two.Or a b = Flag (is_true a || is_true b)
two_value two.And a b = Flag (is_true a && is_true b)
two_value two.Eq a b = Flag (is_eq (expr_cmp a b))
two_value two.Ne a b = Flag (is_ne (expr_cmp a b))
two_value two.Lt a b = Flag (is_lt (expr_cmp a b))
two_value two.Le a b = Flag (is_le (expr_cmp a b))
two_value two.Gt a b = Flag (is_gt (expr_cmp a b))
two_value two.Ge a b = Flag (is_ge (expr_cmp a b))
two_value two.Cat a b = expr_cat a b
two_value two.Add a b = expr_plus a b
two_value two.Mul a b = expr_times a b

-- ---- functions

-- a distance as a number, where `over` and `inf` are `over`; false as 0 and true as 1
abbrev pub num_value : ExprVal → ExprVal
num_value (MinPlus n) = Number (cond (nat_lt n minplus_over) n count_over)
num_value (Flag b) = Number (cond b 1 0)
num_value v = v

-- a number as a distance, `over` where it is past the range of distances
abbrev pub dist_value : ExprVal → ExprVal
dist_value (Number n) = MinPlus (min n minplus_over)
dist_value v = v

-- how many bytes a text has; of `over` it is `over`
abbrev pub len_value : ExprVal → ExprVal
len_value (Text (text.Within bs)) = Number (length bs)
len_value (Text text.Over) = Number count_over
len_value v = v

-- a text as a path
abbrev pub path_value : ExprVal → ExprVal
path_value (Text (text.Within bs)) = Path (path.Within bs)
path_value (Text text.Over) = Path path.Over
path_value v = v

-- a path as a text, which is empty where there is no path
abbrev pub text_value : ExprVal → ExprVal
text_value (Path (path.Within bs)) = Text (text.Within bs)
text_value (Path path.Over) = Text text.Over
text_value (Path path.Absent) = Text (text.Within [])
text_value v = v

-- a function of one value
abbrev pub fun_value : FunOp → ExprVal → ExprVal
fun_value fun.Num v = num_value v
fun_value fun.Dist v = dist_value v
fun_value fun.Len v = len_value v
fun_value fun.Path v = path_value v
fun_value fun.Text v = text_value v

-- ---- expressions

-- what an expression comes to for an entry over the columns c
unfoldable pub value_of : Columns → Tuple → Row → Expr → ExprVal
value_of c k row (expr.Column n) = entry_column c k row n
value_of c k row (expr.Number n) = Number n
value_of c k row (expr.Text bs) = Text (text.Within bs)
value_of c k row (expr.Flag b) = Flag b
value_of c k row expr.Inf = MinPlus minplus_inf
value_of c k row expr.None = Path path.Absent
value_of c k row (Two' o _ (more_of-Expr a end_of-Expr) _ (more_of-Expr b end_of-Expr)) = two_value o (value_of c k row a) (value_of c k row b)
value_of c k row (Not' _ (more_of-Expr a end_of-Expr)) = Flag (not (is_true (value_of c k row a)))
value_of c k row (If' _ (more_of-Expr z end_of-Expr) _ (more_of-Expr a end_of-Expr) _ (more_of-Expr b end_of-Expr)) = if is_true (value_of c k row z) then value_of c k row a else value_of c k row b
value_of c k row (Fun' f _ (more_of-Expr a end_of-Expr)) = fun_value f (value_of c k row a)

-- ---- what an expression's value is in a column of the type

-- in a key column; of another type than its column's, which no typed tree has, it is some value
abbrev pub to_key : KeyType → ExprVal → KeyVal
to_key key_type.Nat (Number n) = key.Nat n
to_key key_type.Text (Text t) = key.Text t
to_key key_type.Flag (Flag b) = key.Flag b
to_key t v = key.Nat 0

-- in a value column, likewise
abbrev pub to_val : ValType → ExprVal → Value
to_val val_type.Count (Number n) = value.Count n
to_val val_type.MinPlus (MinPlus n) = value.MinPlus n
to_val val_type.MaxMin (Number n) = value.MaxMin n
to_val val_type.Flag (Flag b) = value.Flag b
to_val val_type.Last (Text t) = value.Last t
to_val val_type.Path (Path p) = value.Path p
to_val t v = value_zero t
