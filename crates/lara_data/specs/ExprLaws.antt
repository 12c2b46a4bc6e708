-- Which types expressions have, told from both sides, and that a typed expression comes to a value of its type.
use Rattle.std.specs.Prelude.{◌≡◌, ◌<◌, ◌≤◌, ◌++◌, ℕ, Bool, true, false, cond, ◌&&◌, ◌||◌, min, nat_lt, nat_le, List, [], ◌∷◌, length, Option, Some, None, Result, Ok, Err}
use Rattle.std.specs.List.{list_all}
use Rattle.std.specs.Option.{option_or}
use Rattle.std.proofs.Common.{refl, sym, ap, ◌∙◌, arith, subst}
use Rattle.std.proofs.lemmas.Bool.{and_from, and_parts, ltb-true}
use Rattle.std.proofs.lemmas.Bool.Decides.{nat_tests}
use Rattle.std.proofs.lemmas.List.Folds.{list_all-append}
use Rattle.lara_base.specs.Results.{◌>>=◌}
use Rattle.lara_base.specs.Texts.{is_byte, is_content, is_text}
use Rattle.lara_base.specs.declared.text.Text.{Text as TextVal}
use Rattle.lara_base.specs.declared.text.Text.TheVariants as text
use Rattle.lara_key.specs.declared.key.KeyType.{KeyType}
use Rattle.lara_key.specs.declared.key.KeyType.TheVariants as key_type
use Rattle.lara_key.specs.declared.key.KeyVal.{KeyVal}
use Rattle.lara_key.specs.declared.key.KeyVal.TheVariants as key
use Rattle.lara_key.specs.Keys.{has_key_type, tuple_has}
use Rattle.lara_semiring.specs.Counts.{count_over, count_plus_is, count_times_is}
use Rattle.lara_semiring.specs.MinPlus.{minplus_over, minplus_inf, minplus_times_is}
use Rattle.lara_semiring.specs.Paths.{path_plus_is, path_times_is}
use Rattle.lara_semiring.specs.Rows.{first, rest, row_has}
use Rattle.lara_semiring.specs.Values.{has_type}
use Rattle.lara_semiring.specs.declared.path.PathText.TheVariants as path
use Rattle.lara_semiring.specs.declared.value.ValType.{ValType}
use Rattle.lara_semiring.specs.declared.value.ValType.TheVariants as val_type
use Rattle.lara_semiring.specs.declared.value.Value.{Value}
use Rattle.lara_semiring.specs.declared.value.Value.TheVariants as value
use Rattle.lara_data.specs.declared.expr.Expr.{Expr}
use Rattle.lara_data.specs.declared.expr.Expr.TheBlock.{end_of-Expr, more_of-Expr}
use Rattle.lara_data.specs.declared.expr.Expr.TheVariants as expr
use Rattle.lara_data.specs.declared.expr.Expr.TheVariants.{Two', Not', If', Fun'}
use Rattle.lara_data.specs.declared.expr.TwoOp.{TwoOp}
use Rattle.lara_data.specs.declared.expr.TwoOp.TheVariants as two
use Rattle.lara_data.specs.declared.expr.FunOp.{FunOp}
use Rattle.lara_data.specs.declared.expr.FunOp.TheVariants as fun
use Rattle.lara_data.specs.declared.expr_val.ExprType.{ExprType}
use Rattle.lara_data.specs.declared.expr_val.ExprType.TheVariants as type
use Rattle.lara_data.specs.declared.expr_val.ExprVal.{ExprVal}
use Rattle.lara_data.specs.declared.expr_val.ExprVal.TheVariants as val
use Rattle.lara_data.specs.declared.refusal.Kind.{Kind}
use Rattle.lara_data.specs.declared.refusal.Kind.TheVariants.{NoName, NotInRange, TypesDiffer}
use Rattle.lara_data.specs.declared.table_type.KeyCol.{KeyCol}
use Rattle.lara_data.specs.KeyedTables.{Row}
use Rattle.lara_data.specs.TableTypes.{Columns, types, key_types, key_names}
use Rattle.lara_data.specs.Names.{Name, Tuple, same_name, has, read}
use Rattle.lara_data.specs.Vals.{Vals}
use Rattle.lara_data.specs.TypedTables.{KeyHas}
use Rattle.lara_data.specs.ExprTypes.{key_expr_type, val_expr_type, same_expr_type, key_column_type, val_column_type, column_type, two_type, sides_type, not_type, branches_type, fun_type, type_or, expr_type, ExprHas, column, number, text as written, flag, inf, none, sides, turned, branches, called}
use Rattle.lara_data.specs.ExprValues.{is_expr_val, of_key, of_val, row_column, entry_column, is_true, text_cat, expr_plus, expr_times, two_value, fun_value, value_of, to_key, to_val}

-- ---- types

pub same_expr_type_is : (t u : ExprType) → same_expr_type t u ≡ true → t ≡ u
same_expr_type_is type.Number type.Number h = refl
same_expr_type_is type.MinPlus type.MinPlus h = refl
same_expr_type_is type.Text type.Text h = refl
same_expr_type_is type.Path type.Path h = refl
same_expr_type_is type.Flag type.Flag h = refl
same_expr_type_is _ _ h = cc

pub same_expr_type_itself : (t : ExprType) → same_expr_type t t ≡ true
same_expr_type_itself type.Number = refl
same_expr_type_itself type.MinPlus = refl
same_expr_type_itself type.Text = refl
same_expr_type_itself type.Path = refl
same_expr_type_itself type.Flag = refl

-- a type that was found
type_found : (kind : Kind) (found : Option ExprType) (t : ExprType) → type_or kind found ≡ Ok t → found ≡ Some t
type_found kind None t h = cc
type_found kind (Some u) t h = let e : u ≡ t = cc in ap Some e

-- both steps were taken
pub steps : {A B E : Type 0} (r : Result A E) (f : A → Result B E) (y : B) → (r >>= f) ≡ Ok y → (x : A) × (r ≡ Ok x) × (f x ≡ Ok y)
steps (Ok x) f y e = (x, refl, e)
steps (Err d) f y e = cc

-- the sides are of one type
sides_found : (o : TwoOp) (t u r : ExprType) → sides_type o t u ≡ Some r → (t ≡ u) × (two_type o t ≡ Some r)
sides_found o t u r h =
    elim (same_expr_type t u) as (λ b. same_expr_type t u ≡ b → cond b (two_type o t) None ≡ Some r → (t ≡ u) × (two_type o t ≡ Some r)) [
      | true ↦ λ e g. (same_expr_type_is t u e, g)
      | false ↦ λ e g. cc
    ] refl h

not_found : (t r : ExprType) → not_type t ≡ Some r → (t ≡ type.Flag) × (r ≡ type.Flag)
not_found type.Flag r h = (refl, cc)
not_found type.Number r h = cc
not_found type.MinPlus r h = cc
not_found type.Text r h = cc
not_found type.Path r h = cc

branches_found : (s t u r : ExprType) → branches_type s t u ≡ Some r → (s ≡ type.Flag) × (t ≡ u) × (t ≡ r)
branches_found s t u r h =
    elim (same_expr_type s type.Flag && same_expr_type t u) as (λ b. (same_expr_type s type.Flag && same_expr_type t u) ≡ b → cond b (Some t) None ≡ Some r → (s ≡ type.Flag) × (t ≡ u) × (t ≡ r)) [
      | true ↦ λ e g.
          let p = and_parts (same_expr_type s type.Flag) (same_expr_type t u) e in
          (same_expr_type_is s type.Flag p.0, same_expr_type_is t u p.1, cc)
      | false ↦ λ e g. cc
    ] refl h

module _ (c : Columns) where
  -- what an expression's rules give is its type
  pub expr_found : (e : Expr) (t : ExprType) → expr_type c e ≡ Ok t → ExprHas c e t
  unfolding expr_type Rattle.lara_data.specs.declared.expr.Expr.TheBlock.hidden-the_row-Expr-0 denote.Hole.Carrier.hidden
  expr_found (expr.Column n) t h = column n t (type_found NoName (column_type c n) t h)
  expr_found (expr.Number n) t h =
      elim (nat_lt n count_over) as (λ b. nat_lt n count_over ≡ b → cond b (Ok type.Number) (Err NotInRange) ≡ Ok t → ExprHas c (expr.Number n) t) [
        | true ↦ λ e g. let is : type.Number ≡ t = cc in subst (ExprHas c (expr.Number n)) is (number n (ltb-true n count_over e))
        | false ↦ λ e g. cc
      ] refl h
  expr_found (expr.Text bs) t h =
      elim (is_content bs) as (λ b. is_content bs ≡ b → cond b (Ok type.Text) (Err NotInRange) ≡ Ok t → ExprHas c (expr.Text bs) t) [
        | true ↦ λ e g. let is : type.Text ≡ t = cc in subst (ExprHas c (expr.Text bs)) is (written bs e)
        | false ↦ λ e g. cc
      ] refl h
  expr_found (expr.Flag b) t h = let is : type.Flag ≡ t = cc in subst (ExprHas c (expr.Flag b)) is (flag b)
  expr_found expr.Inf t h = let is : type.MinPlus ≡ t = cc in subst (ExprHas c expr.Inf) is inf
  expr_found expr.None t h = let is : type.Path ≡ t = cc in subst (ExprHas c expr.None) is none
  expr_found (Two' o p (more_of-Expr a end_of-Expr) q (more_of-Expr b end_of-Expr)) r h =
      let x = steps (expr_type c a) (λ t. expr_type c b >>= λ u. type_or TypesDiffer (sides_type o t u)) r h in
      let y = steps (expr_type c b) (λ u. type_or TypesDiffer (sides_type o x.0 u)) r x.2 in
      let s = sides_found o x.0 y.0 r (type_found TypesDiffer (sides_type o x.0 y.0) r y.2) in
      sides o a b x.0 r (expr_found a x.0 x.1) (subst (ExprHas c b) (sym s.0) (expr_found b y.0 y.1)) s.1
  expr_found (Not' p (more_of-Expr a end_of-Expr)) r h =
      let x = steps (expr_type c a) (λ t. type_or TypesDiffer (not_type t)) r h in
      let s = not_found x.0 r (type_found TypesDiffer (not_type x.0) r x.2) in
      subst (ExprHas c (expr.Not a)) (sym s.1) (turned a (subst (ExprHas c a) s.0 (expr_found a x.0 x.1)))
  expr_found (If' p (more_of-Expr z end_of-Expr) q (more_of-Expr a end_of-Expr) o (more_of-Expr b end_of-Expr)) r h =
      let w = steps (expr_type c z) (λ s. expr_type c a >>= λ t. expr_type c b >>= λ u. type_or TypesDiffer (branches_type s t u)) r h in
      let x = steps (expr_type c a) (λ t. expr_type c b >>= λ u. type_or TypesDiffer (branches_type w.0 t u)) r w.2 in
      let y = steps (expr_type c b) (λ u. type_or TypesDiffer (branches_type w.0 x.0 u)) r x.2 in
      let s = branches_found w.0 x.0 y.0 r (type_found TypesDiffer (branches_type w.0 x.0 y.0) r y.2) in
      branches z a b r (subst (ExprHas c z) s.0 (expr_found z w.0 w.1)) (subst (ExprHas c a) s.2 (expr_found a x.0 x.1)) (subst (ExprHas c b) (sym s.1 ∙ s.2) (expr_found b y.0 y.1))
  expr_found (Fun' f p (more_of-Expr a end_of-Expr)) r h =
      let x = steps (expr_type c a) (λ t. type_or TypesDiffer (fun_type f t)) r h in
      called f a x.0 r (expr_found a x.0 x.1) (type_found TypesDiffer (fun_type f x.0) r x.2)

  -- an expression has one type at most, which its rules give
  pub expr_only : (e : Expr) (t : ExprType) → ExprHas c e t → expr_type c e ≡ Ok t
  unfolding expr_type Rattle.lara_data.specs.declared.expr.Expr.TheBlock.hidden-the_row-Expr-0 denote.Hole.Carrier.hidden
  expr_only e t (column n u h) = ap (type_or NoName) h
  expr_only e t (number n h) = ap (λ b. cond b (Ok type.Number) (Err NotInRange)) (lt_true n count_over h)
    where
      lt_true : (n m : ℕ) → n < m → nat_lt n m ≡ true
      lt_true n m h = grind (arith, nat_tests)
  expr_only e t (written bs h) = ap (λ b. cond b (Ok type.Text) (Err NotInRange)) h
  expr_only e t (flag b) = refl
  expr_only e t inf = refl
  expr_only e t none = refl
  expr_only e r (sides o a b t u p q h) =
      (λ i. expr_only a t p i >>= λ x. expr_only b t q i >>= λ y. type_or TypesDiffer (sides_type o x y))
      ∙ ap (λ s. type_or TypesDiffer (cond s (two_type o t) None)) (same_expr_type_itself t) ∙ ap (type_or TypesDiffer) h
  expr_only e r (turned a p) = ap (λ x. x >>= λ t. type_or TypesDiffer (not_type t)) (expr_only a type.Flag p)
  expr_only e r (branches z a b t p q s) =
      (λ i. expr_only z type.Flag p i >>= λ v. expr_only a t q i >>= λ x. expr_only b t s i >>= λ y. type_or TypesDiffer (branches_type v x y))
      ∙ ap (λ d. type_or TypesDiffer (cond d (Some t) None)) (same_expr_type_itself t)
  expr_only e r (called f a t u p h) = ap (λ x. x >>= λ t. type_or TypesDiffer (fun_type f t)) (expr_only a t p) ∙ ap (type_or TypesDiffer) h

-- ---- values

-- what a column of a key reads as is of what its type reads as
pub of_key_is : (t : KeyType) (v : KeyVal) → has_key_type t v ≡ true → is_expr_val (key_expr_type t) (of_key v) ≡ true
unfolding has_key_type
of_key_is key_type.Nat (key.Nat n) h = h
of_key_is key_type.Text (key.Text x) h = h
of_key_is key_type.Flag (key.Flag b) h = refl
of_key_is _ _ h = cc

-- what a value reads as is of what its type reads as
pub of_val_is : (t : ValType) (v : Value) → has_type t v ≡ true → is_expr_val (val_expr_type t) (of_val v) ≡ true
unfolding has_type
of_val_is val_type.Count (value.Count n) h = h
of_val_is val_type.MinPlus (value.MinPlus n) h = h
of_val_is val_type.MaxMin (value.MaxMin n) h = h
of_val_is val_type.Flag (value.Flag b) h = refl
of_val_is val_type.Last (value.Last x) h = h
of_val_is val_type.Path (value.Path x) h = h
of_val_is _ _ h = cc

first_has : (t : ValType) (ts : List ValType) (row : Row) → row_has (t ∷ ts) row ≡ true → has_type t (first t row) ≡ true
unfolding row_has
first_has t ts [] h = cc
first_has t ts (v ∷ vs) h = (and_parts (has_type t v) (row_has ts vs) h).0

rest_has : (t : ValType) (ts : List ValType) (row : Row) → row_has (t ∷ ts) row ≡ true → row_has ts (rest row) ≡ true
unfolding row_has
rest_has t ts [] h = cc
rest_has t ts (v ∷ vs) h = (and_parts (has_type t v) (row_has ts vs) h).1

-- a name that has a type among the value columns has a value of it in a row
row_column_is : (vals : Vals) (row : Row) (n : Name) (t : ExprType) → row_has (types vals) row ≡ true → val_column_type vals n ≡ Some t → is_expr_val t (row_column vals row n) ≡ true
unfolding val_column_type row_column
row_column_is [] row n t h e = cc
row_column_is (v ∷ vals) row n t h e =
    elim (same_name n v.name) as (λ b. cond b (Some (val_expr_type v.ty)) (val_column_type vals n) ≡ Some t → is_expr_val t (cond b (of_val (first v.ty row)) (row_column vals (rest row) n)) ≡ true) [
      | true ↦ λ g.
          let is : val_expr_type v.ty ≡ t = cc in
          subst (λ u. is_expr_val u (of_val (first v.ty row)) ≡ true) is (of_val_is v.ty (first v.ty row) (first_has v.ty (types vals) row h))
      | false ↦ λ g. row_column_is vals (rest row) n t (rest_has v.ty (types vals) row h) g
    ] e

-- a name that has a type among the key columns is one of theirs, and one that has none is not
key_column_is : (keys : List KeyCol) (k : Tuple) (n : Name) (t : ExprType) → KeyHas keys k → key_column_type keys n ≡ Some t → (has (key_names keys) n ≡ true) × (is_expr_val t (of_key (read (key_names keys) k n)) ≡ true)
unfolding key_column_type has read tuple_has
key_column_is [] k n t h e = cc
key_column_is (c ∷ keys) [] n t h e = cc
key_column_is (c ∷ keys) (v ∷ k) n t h e =
    let parts = and_parts (has_key_type c.ty v) (tuple_has (key_types keys) k) h in
    elim (same_name n c.name) as (λ b. cond b (Some (key_expr_type c.ty)) (key_column_type keys n) ≡ Some t → ((b || has (key_names keys) n) ≡ true) × (is_expr_val t (of_key (cond b v (read (key_names keys) k n))) ≡ true)) [
      | true ↦ λ g.
          let is : key_expr_type c.ty ≡ t = cc in
          (refl, subst (λ u. is_expr_val u (of_key v) ≡ true) is (of_key_is c.ty v parts.0))
      | false ↦ λ g. key_column_is keys k n t parts.1 g
    ] e

no_key_column : (keys : List KeyCol) (n : Name) → key_column_type keys n ≡ None → has (key_names keys) n ≡ false
unfolding key_column_type has
no_key_column [] n e = refl
no_key_column (c ∷ keys) n e =
    elim (same_name n c.name) as (λ b. cond b (Some (key_expr_type c.ty)) (key_column_type keys n) ≡ None → (b || has (key_names keys) n) ≡ false) [
      | true ↦ λ g. cc
      | false ↦ λ g. no_key_column keys n g
    ] e

-- a column that has a type has a value of it in an entry
entry_column_is : (c : Columns) (k : Tuple) (row : Row) (n : Name) (t : ExprType) → KeyHas c.keys k → row_has (types c.vals) row ≡ true → column_type c n ≡ Some t → is_expr_val t (entry_column c k row n) ≡ true
entry_column_is c k row n t h r e = by_key (key_column_type c.keys n) refl e
  where
    by_key : (found : Option ExprType) → key_column_type c.keys n ≡ found → option_or found (val_column_type c.vals n) ≡ Some t → is_expr_val t (entry_column c k row n) ≡ true
    by_key (Some u) s g =
        let is : u ≡ t = cc in
        let p = key_column_is c.keys k n t h (s ∙ ap Some is) in
        subst (λ b. is_expr_val t (cond b (of_key (read (key_names c.keys) k n)) (row_column c.vals row n)) ≡ true) (sym p.0) p.1
    by_key None s g = subst (λ b. is_expr_val t (cond b (of_key (read (key_names c.keys) k n)) (row_column c.vals row n)) ≡ true) (sym (no_key_column c.keys n s)) (row_column_is c.vals row n t r g)

content_of : (a b : List ℕ) → is_content a ≡ true → is_content b ≡ true → nat_le (length (a ++ b)) 1024 ≡ true → is_content (a ++ b) ≡ true
unfolding is_content
content_of a b p q l =
    and_from _ _ l (list_all-append is_byte a b ∙ and_from _ _ (and_parts (nat_le (length a) 1024) (list_all is_byte a) p).1 (and_parts (nat_le (length b) 1024) (list_all is_byte b) q).1)

text_cat_is : (x y : TextVal) → is_text x ≡ true → is_text y ≡ true → is_text (text_cat x y) ≡ true
text_cat_is (text.Within a) (text.Within b) p q =
    elim (nat_le (length (a ++ b)) 1024) as (λ t. nat_le (length (a ++ b)) 1024 ≡ t → is_text (cond t (text.Within (a ++ b)) text.Over) ≡ true) [
      | true ↦ λ e. content_of a b p q e
      | false ↦ λ e. refl
    ] refl
text_cat_is (text.Within a) text.Over p q = refl
text_cat_is text.Over (text.Within b) p q = refl
text_cat_is text.Over text.Over p q = refl

below : (n m : ℕ) → n ≤ m → nat_le n m ≡ true
below n m h = grind (arith, nat_tests)

plus_is : (t u : ExprType) (a b : ExprVal) → two_type two.Add t ≡ Some u → is_expr_val t a ≡ true → is_expr_val t b ≡ true → is_expr_val u (expr_plus a b) ≡ true
plus_is type.Number type.Number (val.Number a) (val.Number b) h p q = below _ count_over (count_plus_is a b)
plus_is type.MinPlus type.MinPlus (val.MinPlus a) (val.MinPlus b) h p q = grind (arith, nat_tests)
plus_is type.Path type.Path (val.Path a) (val.Path b) h p q = path_plus_is a b p q
plus_is _ _ _ _ h p q = cc

times_is : (t u : ExprType) (a b : ExprVal) → two_type two.Mul t ≡ Some u → is_expr_val t a ≡ true → is_expr_val t b ≡ true → is_expr_val u (expr_times a b) ≡ true
times_is type.Number type.Number (val.Number a) (val.Number b) h p q = below _ count_over (count_times_is a b)
times_is type.MinPlus type.MinPlus (val.MinPlus a) (val.MinPlus b) h p q = below _ minplus_inf (minplus_times_is a b)
times_is type.Path type.Path (val.Path a) (val.Path b) h p q = path_times_is a b p q
times_is _ _ _ _ h p q = cc

cat_is : (t u : ExprType) (a b : ExprVal) → two_type two.Cat t ≡ Some u → is_expr_val t a ≡ true → is_expr_val t b ≡ true → is_expr_val u (two_value two.Cat a b) ≡ true
cat_is type.Text type.Text (val.Text a) (val.Text b) h p q = text_cat_is a b p q
cat_is _ _ _ _ h p q = cc

-- an operator that asks makes a flag
asks : (o : TwoOp) (t u : ExprType) → two_type o t ≡ Some u → (b : Bool) → u ≡ type.Flag → is_expr_val u (val.Flag b) ≡ true
asks o t u h b e = subst (λ x. is_expr_val x (val.Flag b) ≡ true) (sym e) refl

flag_of : (t u : ExprType) → Some t ≡ Some u → t ≡ u
flag_of t u h = cc

-- what an operator makes of two values of a type that it takes is of the type that it makes
two_is : (o : TwoOp) (t u : ExprType) (a b : ExprVal) → two_type o t ≡ Some u → is_expr_val t a ≡ true → is_expr_val t b ≡ true → is_expr_val u (two_value o a b) ≡ true
two_is two.Or type.Flag type.Flag a b h p q = refl
two_is two.Or _ _ a b h p q = cc
two_is two.And type.Flag type.Flag a b h p q = refl
two_is two.And _ _ a b h p q = cc
two_is two.Eq t u a b h p q = asks two.Eq t u h _ (sym (flag_of type.Flag u h))
two_is two.Ne t u a b h p q = asks two.Ne t u h _ (sym (flag_of type.Flag u h))
two_is two.Lt t u a b h p q = asks two.Lt t u h _ (sym (flag_of type.Flag u h))
two_is two.Le t u a b h p q = asks two.Le t u h _ (sym (flag_of type.Flag u h))
two_is two.Gt t u a b h p q = asks two.Gt t u h _ (sym (flag_of type.Flag u h))
two_is two.Ge t u a b h p q = asks two.Ge t u h _ (sym (flag_of type.Flag u h))
two_is two.Cat t u a b h p q = cat_is t u a b h p q
two_is two.Add t u a b h p q = plus_is t u a b h p q
two_is two.Mul t u a b h p q = times_is t u a b h p q

num_is : (n : ℕ) → nat_le n minplus_inf ≡ true → nat_le (cond (nat_lt n minplus_over) n count_over) count_over ≡ true
num_is n p = grind (arith, nat_tests)

len_is : (bs : List ℕ) → is_content bs ≡ true → nat_le (length bs) count_over ≡ true
unfolding is_content
len_is bs p = let l = (and_parts (nat_le (length bs) 1024) (list_all is_byte bs) p).0 in grind (arith, nat_tests)

empty_is : is_content [] ≡ true
unfolding is_content
empty_is = refl

-- what a function makes of a value of a type that it takes is of the type that it makes
fun_is : (f : FunOp) (t u : ExprType) (v : ExprVal) → fun_type f t ≡ Some u → is_expr_val t v ≡ true → is_expr_val u (fun_value f v) ≡ true
fun_is fun.Num type.MinPlus type.Number (val.MinPlus n) h p = num_is n p
fun_is fun.Num type.Flag type.Number (val.Flag true) h p = refl
fun_is fun.Num type.Flag type.Number (val.Flag false) h p = refl
fun_is fun.Dist type.Number type.MinPlus (val.Number n) h p = below (min n minplus_over) minplus_inf (omega arith)
fun_is fun.Len type.Text type.Number (val.Text (text.Within bs)) h p = len_is bs p
fun_is fun.Len type.Text type.Number (val.Text text.Over) h p = refl
fun_is fun.Path type.Text type.Path (val.Text (text.Within bs)) h p = p
fun_is fun.Path type.Text type.Path (val.Text text.Over) h p = refl
fun_is fun.Text type.Path type.Text (val.Path (path.Within bs)) h p = p
fun_is fun.Text type.Path type.Text (val.Path path.Over) h p = refl
fun_is fun.Text type.Path type.Text (val.Path path.Absent) h p = empty_is
fun_is _ _ _ _ h p = cc

-- a typed expression comes to a value of its type
pub value_is : (c : Columns) (k : Tuple) (row : Row) (e : Expr) (t : ExprType) → KeyHas c.keys k → row_has (types c.vals) row ≡ true → ExprHas c e t → is_expr_val t (value_of c k row e) ≡ true
unfolding value_of Rattle.lara_data.specs.declared.expr.Expr.TheBlock.hidden-the_row-Expr-0 denote.Hole.Carrier.hidden
value_is c k row e t h r (column n u g) = entry_column_is c k row n u h r g
value_is c k row e t h r (number n g) = below n count_over (omega (arith, g))
value_is c k row e t h r (written bs g) = g
value_is c k row e t h r (flag b) = refl
value_is c k row e t h r inf = refl
value_is c k row e t h r none = refl
value_is c k row e w h r (sides o a b t u p q g) = two_is o t u (value_of c k row a) (value_of c k row b) g (value_is c k row a t h r p) (value_is c k row b t h r q)
value_is c k row e t h r (turned a p) = refl
value_is c k row e w h r (branches z a b t p q s) =
    elim (is_true (value_of c k row z)) as (λ d. is_expr_val t (cond d (value_of c k row a) (value_of c k row b)) ≡ true) [
      | true ↦ value_is c k row a t h r q
      | false ↦ value_is c k row b t h r s
    ]
value_is c k row e w h r (called f a t u p g) = fun_is f t u (value_of c k row a) g (value_is c k row a t h r p)

-- ---- columns of what is computed

-- a value is one of each value column that reads as its type
pub to_val_is : (t : ValType) (v : ExprVal) → is_expr_val (val_expr_type t) v ≡ true → has_type t (to_val t v) ≡ true
unfolding has_type
to_val_is val_type.Count (val.Number n) h = h
to_val_is val_type.MinPlus (val.MinPlus n) h = h
to_val_is val_type.MaxMin (val.Number n) h = h
to_val_is val_type.Flag (val.Flag b) h = refl
to_val_is val_type.Last (val.Text x) h = h
to_val_is val_type.Path (val.Path x) h = h
to_val_is _ _ h = cc

-- a value is one of each key column that reads as its type
pub to_key_is : (t : KeyType) (v : ExprVal) → is_expr_val (key_expr_type t) v ≡ true → has_key_type t (to_key t v) ≡ true
unfolding has_key_type
to_key_is key_type.Nat (val.Number n) h = h
to_key_is key_type.Text (val.Text x) h = h
to_key_is key_type.Flag (val.Flag b) h = refl
to_key_is _ _ h = cc
