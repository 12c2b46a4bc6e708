-- Where no part of an expression is a text or a path, neither is what it comes to.
use Rattle.std.specs.Prelude.{◌≡◌, ℕ, Bool, true, false, cond, ◌&&◌, ◌||◌, List, [], ◌∷◌, Option, Some}
use Rattle.std.proofs.Common.{refl}
use Rattle.std.proofs.lemmas.Bool.{and_parts}
use Rattle.std.specs.Option.{option_or}
use Rattle.lara_key.specs.declared.key.KeyType.{KeyType}
use Rattle.lara_key.specs.declared.key.KeyType.TheVariants as key_type
use Rattle.lara_key.specs.declared.key.KeyVal.{KeyVal}
use Rattle.lara_key.specs.declared.key.KeyVal.TheVariants as key
use Rattle.lara_key.specs.Keys.{has_key_type, tuple_has}
use Rattle.lara_semiring.specs.declared.value.ValType.{ValType}
use Rattle.lara_semiring.specs.declared.value.ValType.TheVariants as val_type
use Rattle.lara_semiring.specs.declared.value.Value.{Value}
use Rattle.lara_semiring.specs.declared.value.Value.TheVariants as value
use Rattle.lara_semiring.specs.Values.{has_type}
use Rattle.lara_semiring.specs.Rows.{row_has}
use Rattle.lara_data.specs.declared.table_type.KeyCol.{KeyCol}
use Rattle.lara_data.specs.declared.table_type.ValCol.{ValCol}
use Rattle.lara_data.specs.declared.expr.Expr.{Expr}
use Rattle.lara_data.specs.declared.expr.Expr.TheBlock.{end_of-Expr, more_of-Expr}
use Rattle.lara_data.specs.declared.expr.Expr.TheVariants as expr
use Rattle.lara_data.specs.declared.expr.Expr.TheVariants.{Two', Not', If', Fun'}
use Rattle.lara_data.specs.declared.expr.TwoOp.{TwoOp}
use Rattle.lara_data.specs.declared.expr.TwoOp.TheVariants as two
use Rattle.lara_data.specs.declared.expr.FunOp.{FunOp}
use Rattle.lara_data.specs.declared.expr.FunOp.TheVariants as fun
use Rattle.lara_data.specs.declared.expr_val.ExprType.{ExprType}
use Rattle.lara_data.specs.declared.expr_val.ExprVal.{ExprVal}
use Rattle.lara_data.specs.declared.expr_val.ExprVal.TheVariants.{Number, MinPlus, Text, Path, Flag}
use Rattle.lara_data.specs.KeyedTables.{Row}
use Rattle.lara_data.specs.TableTypes.{Columns, types, key_types, key_names}
use Rattle.lara_data.specs.TypedTables.{KeyHas}
use Rattle.lara_data.specs.Names.{Name, Tuple, same_name, has, read}
use Rattle.lara_data.specs.ExprTypes.{key_expr_type, val_expr_type, key_column_type, val_column_type, column_type}
use Rattle.lara_data.specs.ExprValues.{of_key, of_val, row_column, entry_column, is_true, expr_plus, expr_times, expr_cat, two_value, fun_value, value_of}
use Rattle.lara_expr.specs.Plain.{is_plain_type, is_plain_val, is_plain_column, is_plain}

-- ---- columns

key_plain : (t : KeyType) (v : KeyVal) → has_key_type t v ≡ true → is_plain_type (key_expr_type t) ≡ true → is_plain_val (of_key v) ≡ true
unfolding has_key_type
key_plain key_type.Nat (key.Nat n) h p = refl
key_plain key_type.Flag (key.Flag b) h p = refl
key_plain key_type.Text v h p = cc
key_plain _ _ h p = cc

val_plain : (t : ValType) (v : Value) → has_type t v ≡ true → is_plain_type (val_expr_type t) ≡ true → is_plain_val (of_val v) ≡ true
unfolding has_type
val_plain val_type.Count (value.Count n) h p = refl
val_plain val_type.MinPlus (value.MinPlus n) h p = refl
val_plain val_type.MaxMin (value.MaxMin n) h p = refl
val_plain val_type.Flag (value.Flag b) h p = refl
val_plain val_type.Last v h p = cc
val_plain val_type.Path v h p = cc
val_plain _ _ h p = cc

-- what a key column that is among these reads as, when the value columns are asked behind them
key_column_plain : (keys : List KeyCol) (k : Tuple) (n : Name) (other : Option ExprType) → KeyHas keys k → has (key_names keys) n ≡ true → is_plain_column (option_or (key_column_type keys n) other) ≡ true → is_plain_val (of_key (read (key_names keys) k n)) ≡ true
unfolding has read key_column_type tuple_has
key_column_plain [] k n o h i p = cc
key_column_plain (c ∷ keys) [] n o h i p = cc
key_column_plain (c ∷ keys) (v ∷ k) n o h i p =
    let parts = and_parts (has_key_type c.ty v) (tuple_has (key_types keys) k) h in
    elim (same_name n c.name) as (λ b. (b || has (key_names keys) n) ≡ true → is_plain_column (option_or (cond b (Some (key_expr_type c.ty)) (key_column_type keys n)) o) ≡ true → is_plain_val (of_key (cond b v (read (key_names keys) k n))) ≡ true) [
      | true ↦ λ _ q. key_plain c.ty v parts.0 q
      | false ↦ λ j q. key_column_plain keys k n o parts.1 j q
    ] i p

no_key_column : (keys : List KeyCol) (n : Name) (other : Option ExprType) → has (key_names keys) n ≡ false → option_or (key_column_type keys n) other ≡ other
unfolding has key_column_type
no_key_column [] n o i = refl
no_key_column (c ∷ keys) n o i =
    elim (same_name n c.name) as (λ b. (b || has (key_names keys) n) ≡ false → option_or (cond b (Some (key_expr_type c.ty)) (key_column_type keys n)) o ≡ o) [
      | true ↦ λ j. cc
      | false ↦ λ j. no_key_column keys n o j
    ] i

row_column_plain : (vals : List ValCol) (row : Row) (n : Name) → row_has (types vals) row ≡ true → is_plain_column (val_column_type vals n) ≡ true → is_plain_val (row_column vals row n) ≡ true
unfolding row_column val_column_type row_has
row_column_plain [] row n h p = refl
row_column_plain (c ∷ vals) [] n h p = cc
row_column_plain (c ∷ vals) (v ∷ row) n h p =
    let parts = and_parts (has_type c.ty v) (row_has (types vals) row) h in
    elim (same_name n c.name) as (λ b. is_plain_column (cond b (Some (val_expr_type c.ty)) (val_column_type vals n)) ≡ true → is_plain_val (cond b (of_val v) (row_column vals row n)) ≡ true) [
      | true ↦ λ q. val_plain c.ty v parts.0 q
      | false ↦ λ q. row_column_plain vals row n parts.1 q
    ] p

pub entry_column_plain : (c : Columns) (k : Tuple) (row : Row) (n : Name) → KeyHas c.keys k → row_has (types c.vals) row ≡ true → is_plain_column (column_type c n) ≡ true → is_plain_val (entry_column c k row n) ≡ true
entry_column_plain c k row n h r p =
    elim (has (key_names c.keys) n) as (λ b. has (key_names c.keys) n ≡ b → is_plain_val (cond b (of_key (read (key_names c.keys) k n)) (row_column c.vals row n)) ≡ true) [
      | true ↦ λ i. key_column_plain c.keys k n (val_column_type c.vals n) h i p
      | false ↦ λ i. row_column_plain c.vals row n r (rw (no_key_column c.keys n (val_column_type c.vals n) i) at p)
    ] refl

-- ---- operators and functions

plus_plain : (a b : ExprVal) → is_plain_val a ≡ true → is_plain_val (expr_plus a b) ≡ true
plus_plain (Number a) (Number b) h = refl
plus_plain (MinPlus a) (MinPlus b) h = refl
plus_plain (Path a) b h = cc
plus_plain (Text a) b h = cc
plus_plain _ _ h = h

times_plain : (a b : ExprVal) → is_plain_val a ≡ true → is_plain_val (expr_times a b) ≡ true
times_plain (Number a) (Number b) h = refl
times_plain (MinPlus a) (MinPlus b) h = refl
times_plain (Path a) b h = cc
times_plain (Text a) b h = cc
times_plain _ _ h = h

cat_plain : (a b : ExprVal) → is_plain_val a ≡ true → is_plain_val (expr_cat a b) ≡ true
cat_plain (Text a) b h = cc
cat_plain _ _ h = h

two_plain : (o : TwoOp) (a b : ExprVal) → is_plain_val a ≡ true → is_plain_val (two_value o a b) ≡ true
two_plain two.Cat a b h = cat_plain a b h
two_plain two.Add a b h = plus_plain a b h
two_plain two.Mul a b h = times_plain a b h
two_plain _ a b h = refl

fun_plain : (f : FunOp) (a : ExprVal) → is_plain_val a ≡ true → is_plain_val (fun_value f a) ≡ true
fun_plain f (Text t) h = cc
fun_plain f (Path p) h = cc
fun_plain fun.Num (Number n) h = refl
fun_plain fun.Num (MinPlus n) h = refl
fun_plain fun.Num (Flag b) h = refl
fun_plain fun.Dist (Number n) h = refl
fun_plain fun.Dist (MinPlus n) h = refl
fun_plain fun.Dist (Flag b) h = refl
fun_plain fun.Len (Number n) h = refl
fun_plain fun.Len (MinPlus n) h = refl
fun_plain fun.Len (Flag b) h = refl
fun_plain fun.Path (Number n) h = refl
fun_plain fun.Path (MinPlus n) h = refl
fun_plain fun.Path (Flag b) h = refl
fun_plain fun.Text (Number n) h = refl
fun_plain fun.Text (MinPlus n) h = refl
fun_plain fun.Text (Flag b) h = refl

branch_plain : (b : Bool) (x y : ExprVal) → is_plain_val x ≡ true → is_plain_val y ≡ true → is_plain_val (cond b x y) ≡ true
branch_plain true x y p q = p
branch_plain false x y p q = q

-- ---- the parts of an expression

pub is_plain_Column : (c : Columns) (n : Name) → is_plain c (expr.Column n) ≡ is_plain_column (column_type c n)
unfolding is_plain
is_plain_Column c n = refl

pub is_plain_Text : (c : Columns) (bs : List ℕ) → is_plain c (expr.Text bs) ≡ false
unfolding is_plain
is_plain_Text c bs = refl

pub left_plain : (c : Columns) (o : TwoOp) (a b : Expr) → is_plain c (expr.Two o a b) ≡ true → is_plain c a ≡ true
unfolding is_plain Rattle.lara_data.specs.declared.expr.Expr.TheBlock.hidden-the_row-Expr-0 denote.Hole.Carrier.hidden
left_plain c o a b p = (and_parts (is_plain c a) (is_plain c b) p).0

pub right_plain : (c : Columns) (o : TwoOp) (a b : Expr) → is_plain c (expr.Two o a b) ≡ true → is_plain c b ≡ true
unfolding is_plain Rattle.lara_data.specs.declared.expr.Expr.TheBlock.hidden-the_row-Expr-0 denote.Hole.Carrier.hidden
right_plain c o a b p = (and_parts (is_plain c a) (is_plain c b) p).1

pub is_plain_Not : (c : Columns) (a : Expr) → is_plain c (expr.Not a) ≡ is_plain c a
unfolding is_plain Rattle.lara_data.specs.declared.expr.Expr.TheBlock.hidden-the_row-Expr-0 denote.Hole.Carrier.hidden
is_plain_Not c a = refl

pub test_plain : (c : Columns) (z a b : Expr) → is_plain c (expr.If z a b) ≡ true → is_plain c z ≡ true
unfolding is_plain Rattle.lara_data.specs.declared.expr.Expr.TheBlock.hidden-the_row-Expr-0 denote.Hole.Carrier.hidden
test_plain c z a b p = (and_parts (is_plain c z) (is_plain c a) (and_parts (is_plain c z && is_plain c a) (is_plain c b) p).0).0

pub then_plain : (c : Columns) (z a b : Expr) → is_plain c (expr.If z a b) ≡ true → is_plain c a ≡ true
unfolding is_plain Rattle.lara_data.specs.declared.expr.Expr.TheBlock.hidden-the_row-Expr-0 denote.Hole.Carrier.hidden
then_plain c z a b p = (and_parts (is_plain c z) (is_plain c a) (and_parts (is_plain c z && is_plain c a) (is_plain c b) p).0).1

pub else_plain : (c : Columns) (z a b : Expr) → is_plain c (expr.If z a b) ≡ true → is_plain c b ≡ true
unfolding is_plain Rattle.lara_data.specs.declared.expr.Expr.TheBlock.hidden-the_row-Expr-0 denote.Hole.Carrier.hidden
else_plain c z a b p = (and_parts (is_plain c z && is_plain c a) (is_plain c b) p).1

pub is_plain_Fun : (c : Columns) (f : FunOp) (a : Expr) → is_plain c (expr.Fun f a) ≡ is_plain c a
unfolding is_plain Rattle.lara_data.specs.declared.expr.Expr.TheBlock.hidden-the_row-Expr-0 denote.Hole.Carrier.hidden
is_plain_Fun c f a = refl

-- ---- expressions

pub value_plain : (c : Columns) (k : Tuple) (row : Row) (e : Expr) → KeyHas c.keys k → row_has (types c.vals) row ≡ true → is_plain c e ≡ true → is_plain_val (value_of c k row e) ≡ true
unfolding is_plain value_of
value_plain c k row (expr.Column n) h r p = entry_column_plain c k row n h r p
value_plain c k row (expr.Number n) h r p = refl
value_plain c k row (expr.Text bs) h r p = cc
value_plain c k row (expr.Flag b) h r p = refl
value_plain c k row expr.Inf h r p = refl
value_plain c k row expr.None h r p = cc
value_plain c k row (Two' o _ (more_of-Expr a end_of-Expr) _ (more_of-Expr b end_of-Expr)) h r p =
    two_plain o (value_of c k row a) (value_of c k row b) (value_plain c k row a h r (and_parts (is_plain c a) (is_plain c b) p).0)
value_plain c k row (Not' _ (more_of-Expr a end_of-Expr)) h r p = refl
value_plain c k row (If' _ (more_of-Expr z end_of-Expr) _ (more_of-Expr a end_of-Expr) _ (more_of-Expr b end_of-Expr)) h r p =
    let parts = and_parts (is_plain c z && is_plain c a) (is_plain c b) p in
    branch_plain (is_true (value_of c k row z)) (value_of c k row a) (value_of c k row b) (value_plain c k row a h r (and_parts (is_plain c z) (is_plain c a) parts.0).1) (value_plain c k row b h r parts.1)
value_plain c k row (Fun' f _ (more_of-Expr a end_of-Expr)) h r p = fun_plain f (value_of c k row a) (value_plain c k row a h r p)

pub ruleset plain_rules = (is_plain_Column, is_plain_Text, left_plain, right_plain, is_plain_Not, test_plain, then_plain, else_plain, is_plain_Fun, entry_column_plain, value_plain)
