-- Which columns an expression reads, and that a filter by key columns alone goes through sums.
use Rattle.std.specs.Prelude.{◌≡◌, Bool, true, cond, not, List, [], ◌∷◌, ◌++◌}
use Rattle.std.proofs.Common.{refl, sym, ap, ◌∙◌, subst}
use Rattle.std.specs.List.{flat_map}
use Rattle.std.proofs.lemmas.Bool.{and_parts, and_from}
use Rattle.lara_key.specs.Keys.{tuple_cmp}
use Rattle.lara_data.specs.declared.expr.Expr.{Expr}
use Rattle.lara_data.specs.declared.expr.Expr.TheBlock.{end_of-Expr, more_of-Expr}
use Rattle.lara_data.specs.declared.expr.Expr.TheVariants as expr
use Rattle.lara_data.specs.declared.expr.Expr.TheVariants.{Two', Not', If', Fun'}
use Rattle.lara_data.specs.declared.order.EachOp.TheVariants as each
use Rattle.lara_data.specs.KeyedTables.{Row, total}
use Rattle.lara_data.specs.TableTypes.{Columns, types, key_names}
use Rattle.lara_data.specs.TupleOrders.{tuple_order}
use Rattle.lara_data.specs.Names.{Name, Tuple, has, read, among}
use Rattle.lara_data.specs.Tables.{Entry, Entries}
use Rattle.lara_data.specs.Plugins.{Plugins}
use Rattle.lara_data.specs.Additive.{IsAdditive, total_flat_total}
use Rattle.lara_data.specs.Builders.{additive_where, keys_additive}
use Rattle.lara_data.specs.Extensions.{of_each}
use Rattle.lara_data.specs.ExprValues.{of_key, row_column, is_true, two_value, fun_value, value_of}
use Rattle.lara_data.specs.declared.expr_val.ExprVal.TheVariants.{Flag}

-- the names of the columns that an expression reads, each as often as it stands there
unfoldable pub expr_names : Expr → List Name
expr_names (expr.Column n) = n ∷ []
expr_names (expr.Number n) = []
expr_names (expr.Text bs) = []
expr_names (expr.Flag b) = []
expr_names expr.Inf = []
expr_names expr.None = []
expr_names (Two' o _ (more_of-Expr a end_of-Expr) _ (more_of-Expr b end_of-Expr)) = expr_names a ++ expr_names b
expr_names (Not' _ (more_of-Expr a end_of-Expr)) = expr_names a
expr_names (If' _ (more_of-Expr z end_of-Expr) _ (more_of-Expr a end_of-Expr) _ (more_of-Expr b end_of-Expr)) = expr_names z ++ (expr_names a ++ expr_names b)
expr_names (Fun' f _ (more_of-Expr a end_of-Expr)) = expr_names a

-- the expression reads key columns alone
abbrev pub reads_keys : Columns → Expr → Bool
reads_keys c e = among (key_names c.keys) (expr_names e)

-- names of two lists that are among others, each list apart
among_parts : (ns ms ls : List Name) → among ns (ms ++ ls) ≡ true → (among ns ms ≡ true) × (among ns ls ≡ true)
unfolding among
among_parts ns [] ls h = (refl, h)
among_parts ns (m ∷ ms) ls h =
    let p = and_parts (has ns m) (among ns (ms ++ ls)) h in
    let q = among_parts ns ms ls p.1 in
    (and_from (has ns m) (among ns ms) p.0 q.0, q.1)

-- then the row does not matter
pub value_by_key : (c : Columns) (k : Tuple) (r s : Row) (e : Expr) → reads_keys c e ≡ true → value_of c k r e ≡ value_of c k s e
unfolding expr_names value_of among
value_by_key c k r s (expr.Column n) h =
    let there : has (key_names c.keys) n ≡ true = (and_parts (has (key_names c.keys) n) true h).0 in
    ap (λ b. cond b (of_key (read (key_names c.keys) k n)) (row_column c.vals r n)) there ∙ sym (ap (λ b. cond b (of_key (read (key_names c.keys) k n)) (row_column c.vals s n)) there)
value_by_key c k r s (expr.Number n) h = refl
value_by_key c k r s (expr.Text bs) h = refl
value_by_key c k r s (expr.Flag b) h = refl
value_by_key c k r s expr.Inf h = refl
value_by_key c k r s expr.None h = refl
value_by_key c k r s (Two' o _ (more_of-Expr a end_of-Expr) _ (more_of-Expr b end_of-Expr)) h =
    let p = among_parts (key_names c.keys) (expr_names a) (expr_names b) h in
    λ i. two_value o (value_by_key c k r s a p.0 i) (value_by_key c k r s b p.1 i)
value_by_key c k r s (Not' _ (more_of-Expr a end_of-Expr)) h = λ i. Flag (not (is_true (value_by_key c k r s a h i)))
value_by_key c k r s (If' _ (more_of-Expr z end_of-Expr) _ (more_of-Expr a end_of-Expr) _ (more_of-Expr b end_of-Expr)) h =
    let p = among_parts (key_names c.keys) (expr_names z) (expr_names a ++ expr_names b) h in
    let q = among_parts (key_names c.keys) (expr_names a) (expr_names b) p.1 in
    λ i. cond (is_true (value_by_key c k r s z p.0 i)) (value_by_key c k r s a q.0 i) (value_by_key c k r s b q.1 i)
value_by_key c k r s (Fun' f _ (more_of-Expr a end_of-Expr)) h = λ i. fun_value f (value_by_key c k r s a h i)

-- A filter by key columns alone goes through sums, so that rows with one key may be added up before or behind it. A filter
-- by a value, a map and a promote do not: what they give for a sum is not the sum of what they give for its parts.
pub filter_additive : (ps : Plugins) (c : Columns) (e : Expr) → reads_keys c e ≡ true → IsAdditive tuple_cmp (types c.vals) (types c.vals) (of_each ps c (each.Filter e))
unfolding of_each
filter_additive ps c e h =
    let by_key : IsAdditive tuple_cmp (types c.vals) (types c.vals) (λ (x : Entry). cond (is_true (value_of c x.key [] e)) (x ∷ []) []) = additive_where tuple_order (λ k. is_true (value_of c k [] e)) (keys_additive tuple_order (types c.vals) (λ (k : Tuple). k)) in
    subst (λ (f : Entry → Entries). IsAdditive tuple_cmp (types c.vals) (types c.vals) f) (λ i x. cond (is_true (value_by_key c x.key [] x.row e h i)) (x ∷ []) []) by_key

-- so it is one table, whether the entries are summed first or not
pub filter_total : (ps : Plugins) (c : Columns) (e : Expr) (es : Entries) → reads_keys c e ≡ true → total tuple_cmp (types c.vals) (flat_map (of_each ps c (each.Filter e)) (total tuple_cmp (types c.vals) es)) ≡ total tuple_cmp (types c.vals) (flat_map (of_each ps c (each.Filter e)) es)
filter_total ps c e es h = total_flat_total tuple_order tuple_order (filter_additive ps c e h) es
