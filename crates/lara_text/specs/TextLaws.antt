-- Two tables with one text are one: what is printed can be read back.
-- The text tells the name, the key columns in the printed order and the value columns, each with its type, and the table
-- with its key columns in that order. So of the table itself it leaves open how its key columns are declared, where that
-- is not the printed order; and where the type is known, or both are printed in the declared order, it leaves nothing open.
-- Values past their range are printed as `over`, which is told too, so that nothing is asked of ranges.
use Rattle.std.specs.Prelude.{◌≡◌, ℕ, true, false, cond, not, List, [], ◌∷◌, ◌++◌, length, codes, decimal}
use Rattle.std.proofs.Common.{refl, sym, ap, ◌∙◌, subst}
use Rattle.std.specs.List.{flat_map}
use Rattle.std.proofs.lemmas.Bool.{and_parts, or_parts}
use Rattle.std.proofs.lemmas.List.{append_assoc, length-map}
use Rattle.lara_key.specs.declared.key.KeyType.{KeyType}
use Rattle.lara_key.specs.Keys.{tuple_has, tuple_has_length}
use Rattle.lara_data.specs.declared.table_type.KeyCol.{KeyCol}
use Rattle.lara_data.specs.TableTypes.{types, key_types, key_names}
use Rattle.lara_data.specs.KeyedTables.{all_have, AllKeys}
use Rattle.lara_data.specs.Apart.{keys_total}
use Rattle.lara_data.specs.TupleOrders.{tuple_order}
use Rattle.lara_data.specs.Names.{Name, same_name, same_name_is, same_name_itself, has, has_head, among, among_itself, distinct, cut_itself, not_true}
use Rattle.lara_data.specs.Tables.{Entries, Table, recut}
use Rattle.lara_data.specs.Algebra.{heading, agg, agg_heading, key_col, key_cols, agg_table, ordered}
use Rattle.lara_data.specs.AlgebraTyped.{all_have_agg}
use Rattle.lara_data.specs.AlgebraSums.{agg_agg}
use Rattle.lara_data.specs.WholeKeys.{IsWhole, agg_itself}
use Rattle.lara_data.specs.Headings.{names_key_cols}
use Rattle.lara_data.specs.DistinctColumns.{distinct_key_names}
use Rattle.lara_data.specs.TypedTables.{KeyHas, IsTypedTable, cut_has}
use Rattle.lara_text.specs.TableTexts.{head_text, entry_line, end_text, line, table_text}
use Rattle.lara_text.specs.Delimited.{rest_is}
use Rattle.lara_text.specs.Columns.{IsName}
use Rattle.lara_text.specs.HeadLaws.{AreNamed, head_text-apart}
use Rattle.lara_text.specs.CellLaws.{lines_apart}

-- what a print is handed: a name, a table of its type whose columns have names, and an order of key columns of it
pub record IsPrint (name : Name) (order : List Name) (t : Table) : Type 0 where
  pub name_is : IsName name
  pub named : AreNamed t.ty
  pub typed : IsTypedTable t
  pub known : among (key_names t.ty.keys) order ≡ true

-- what the text of a table tells
pub record TextsAgree (m n : Name) (o p : List Name) (t u : Table) : Type 0 where
  pub name : m ≡ n
  pub order : o ≡ p
  pub table : agg_table t o ≡ agg_table u p

-- ---- the entries in the printed order

keys_recut : (keys : List KeyCol) (ks : List Name) (es : Entries) → among (key_names keys) ks ≡ true → AllKeys (KeyHas keys) es → AllKeys (KeyHas (key_cols keys ks)) (recut (key_names keys) ks es)
unfolding AllKeys recut
keys_recut keys ks [] h p = tt
keys_recut keys ks (e ∷ es) h p = (cut_has keys ks e.key h p.0, keys_recut keys ks es h p.1)

ordered_keys : (t : Table) (o : List Name) → IsTypedTable t → among (key_names t.ty.keys) o ≡ true → AllKeys (KeyHas (key_cols t.ty.keys o)) (ordered t o)
unfolding ordered agg
ordered_keys t o p h = keys_total tuple_order (KeyHas (key_cols t.ty.keys o)) (types t.ty.vals) (recut (key_names t.ty.keys) o t.entries) (keys_recut t.ty.keys o t.entries h p.keys)

ordered_rows : (t : Table) (o : List Name) → IsTypedTable t → all_have (types t.ty.vals) (ordered t o) ≡ true
unfolding ordered
ordered_rows t o p = all_have_agg (heading t.ty) o t.entries p.rows

-- ---- the text in its parts

-- the end behind its first byte
end_behind : ℕ → List ℕ
end_behind n = (110 ∷ 100 ∷ 32 ∷ decimal n) ++ codes "\n"

parts : (n : Name) (o : List Name) (t : Table) → table_text n o t ≡ head_text n t.ty o ++ (10 ∷ (flat_map entry_line (ordered t o) ++ (101 ∷ end_behind (length (ordered t o)))))
unfolding table_text end_text end_behind
parts n o t =
    let lines = flat_map entry_line (ordered t o) in
    let last = line (end_text (length (ordered t o))) in
    append_assoc (line (head_text n t.ty o)) lines last ∙ append_assoc (head_text n t.ty o) (codes "\n") (lines ++ last)

-- two tables with one text have one name, one order and one table in this order
pub table_text-apart : (m n : Name) (o p : List Name) (t u : Table) → IsPrint m o t → IsPrint n p u → table_text m o t ≡ table_text n p u → TextsAgree m n o p t u
unfolding agg_table ordered
table_text-apart m n o p t u a b e =
    let heads = head_text-apart m n t.ty u.ty o p _ _ a.name_is b.name_is a.named b.named (sym (parts m o t) ∙ e ∙ parts n p u) in
    let types_one : key_types (key_cols u.ty.keys p) ≡ key_types (key_cols t.ty.keys o) = ap key_types (sym heads.keys) in
    let theirs : AllKeys (λ k. tuple_has (key_types (key_cols t.ty.keys o)) k ≡ true) (ordered u p) = subst (λ (ts : List KeyType). AllKeys (λ k. tuple_has ts k ≡ true) (ordered u p)) types_one (ordered_keys u p b.typed b.known) in
    let rows : all_have (types t.ty.vals) (ordered u p) ≡ true = ap (λ vs. all_have (types vs) (ordered u p)) heads.vals ∙ ordered_rows u p b.typed in
    let cells : ordered t o ≡ ordered u p = lines_apart (key_types (key_cols t.ty.keys o)) (types t.ty.vals) (ordered t o) (ordered u p) (end_behind (length (ordered t o))) (end_behind (length (ordered u p))) (ordered_keys t o a.typed a.known) theirs (ordered_rows t o a.typed) rows (rest_is heads.behind) in
    record {
      name = heads.name;
      order = sym (names_key_cols t.ty.keys o a.known) ∙ ap key_names heads.keys ∙ names_key_cols u.ty.keys p b.known;
      table = λ i. record { ty = record { keys = heads.keys i; vals = heads.vals i }; entries = cells i };
    }

-- ---- where nothing is left open

whole_keys : (keys : List KeyCol) (es : Entries) → distinct (key_names keys) ≡ true → AllKeys (KeyHas keys) es → AllKeys (IsWhole (key_names keys)) es
unfolding AllKeys
whole_keys keys [] d h = tt
whole_keys keys (e ∷ es) d h =
    (cut_itself (key_names keys) e.key d (tuple_has_length (key_types keys) e.key h.0 ∙ length-map keys (λ k. k.ty) ∙ sym (length-map keys (λ k. k.name))), whole_keys keys es d h.1)

-- a table comes again from itself in another order of all its key columns
back : (t : Table) (o : List Name) → IsTypedTable t → among o (key_names t.ty.keys) ≡ true → agg (agg_heading (heading t.ty) o) (key_names t.ty.keys) (ordered t o) ≡ t.entries
unfolding ordered
back t o p h =
    agg_agg (heading t.ty) o (key_names t.ty.keys) t.entries h
    ∙ agg_itself (heading t.ty) t.entries p.table (whole_keys t.ty.keys t.entries (distinct_key_names t.ty.keys t.ty.vals p.columns) p.keys)

-- two tables of one type with one text are one, in whatever order of all key columns they are printed
pub table_text-typed : (m n : Name) (o p : List Name) (t u : Table) → IsPrint m o t → IsPrint n p u → t.ty ≡ u.ty → among o (key_names t.ty.keys) ≡ true → table_text m o t ≡ table_text n p u → (m ≡ n) × ((o ≡ p) × (t ≡ u))
unfolding agg_table ordered
table_text-typed m n o p t u a b same whole e =
    let is = table_text-apart m n o p t u a b e in
    let cells : agg (heading t.ty) o t.entries ≡ agg (heading u.ty) p u.entries = ap (λ (s : Table). s.entries) is.table in
    let whole' : among p (key_names u.ty.keys) ≡ true = (λ i. among (sym is.order i) (key_names (sym same i).keys)) ∙ whole in
    let entries : t.entries ≡ u.entries = sym (back t o a.typed whole) ∙ (λ i. agg (agg_heading (heading (same i)) (is.order i)) (key_names (same i).keys) (cells i)) ∙ back u p b.typed whole' in
    (is.name, (is.order, λ i. record { ty = same i; entries = entries i }))

skip_col : (k : KeyCol) (keys : List KeyCol) (n : Name) → same_name n k.name ≡ false → key_col (k ∷ keys) n ≡ key_col keys n
unfolding key_col
skip_col k keys n h = ap (λ b. cond b (k ∷ []) (key_col keys n)) h

own_col : (k : KeyCol) (keys : List KeyCol) → key_col (k ∷ keys) k.name ≡ k ∷ []
unfolding key_col
own_col k keys = ap (λ b. cond b (k ∷ []) (key_col keys k.name)) (same_name_itself k.name)

-- a name of others than k's
away : (k : KeyCol) (n : Name) (ns : List Name) → has (n ∷ ns) k.name ≡ false → same_name n k.name ≡ false
away k n ns f =
    elim (same_name n k.name) as (λ b. same_name n k.name ≡ b → b ≡ false) [
      | true ↦ λ e. let s : has (n ∷ ns) k.name ≡ true = ap (has (n ∷ ns)) (sym (same_name_is n k.name e)) ∙ has_head n ns in sym s ∙ f
      | false ↦ λ e. refl
    ] refl

skip_cols : (k : KeyCol) (keys : List KeyCol) (ns : List Name) → has ns k.name ≡ false → key_cols (k ∷ keys) ns ≡ key_cols keys ns
unfolding key_cols has
skip_cols k keys [] f = refl
skip_cols k keys (n ∷ ns) f = λ i. skip_col k keys n (away k n ns f) i ++ skip_cols k keys ns (or_parts (same_name k.name n) (has ns k.name) f).1 i

-- the key columns by their own names
own_cols : (keys : List KeyCol) → distinct (key_names keys) ≡ true → key_cols keys (key_names keys) ≡ keys
unfolding key_cols distinct
own_cols [] d = refl
own_cols (k ∷ keys) d =
    let both = and_parts (not (has (key_names keys) k.name)) (distinct (key_names keys)) d in
    λ i. own_col k keys i ++ (skip_cols k keys (key_names keys) (not_true (has (key_names keys) k.name) both.0) ∙ own_cols keys both.1) i

-- two tables with one text, both printed in the declared order of their key columns, are one
pub table_text-declared : (m n : Name) (t u : Table) → IsPrint m (key_names t.ty.keys) t → IsPrint n (key_names u.ty.keys) u → table_text m (key_names t.ty.keys) t ≡ table_text n (key_names u.ty.keys) u → (m ≡ n) × (t ≡ u)
unfolding agg_table
table_text-declared m n t u a b e =
    let is = table_text-apart m n (key_names t.ty.keys) (key_names u.ty.keys) t u a b e in
    let own : (s : Table) → IsTypedTable s → key_cols s.ty.keys (key_names s.ty.keys) ≡ s.ty.keys = λ s p. own_cols s.ty.keys (distinct_key_names s.ty.keys s.ty.vals p.columns) in
    let keys : t.ty.keys ≡ u.ty.keys = sym (own t a.typed) ∙ ap (λ (s : Table). s.ty.keys) is.table ∙ own u b.typed in
    let vals = ap (λ (s : Table). s.ty.vals) is.table in
    let all = table_text-typed m n (key_names t.ty.keys) (key_names u.ty.keys) t u a b (λ i. record { keys = keys i; vals = vals i }) (among_itself (key_names t.ty.keys)) e in
    (all.0, all.1.1)
