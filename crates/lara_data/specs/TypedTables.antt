-- Tables of their types, and that the operations make such tables of such tables.
use Rattle.std.specs.Prelude.{◌≡◌, Bool, true, false, cond, ◌&&◌, ◌||◌, not, List, [], ◌∷◌, ◌++◌, filter, length}
use Rattle.std.proofs.Common.{refl, sym, ap, ◌∙◌, subst}
use Rattle.std.proofs.lemmas.Bool.{and_from, and_parts, or_parts}
use Rattle.std.specs.List.{flat_map}
use Rattle.std.proofs.lemmas.List.{map-append, length-map}
use Rattle.lara_key.specs.declared.key.KeyType.{KeyType}
use Rattle.lara_key.specs.declared.key.KeyVal.{KeyVal}
use Rattle.lara_key.specs.Keys.{has_key_type, tuple_has, tuple_has_length, tuple_cmp}
use Rattle.lara_data.specs.declared.table_type.KeyCol.{KeyCol}
use Rattle.lara_data.specs.TableTypes.{Columns, types, key_types, key_names, are_columns}
use Rattle.lara_data.specs.KeyedTables.{all_have, IsTable, AllKeys}
use Rattle.lara_data.specs.KeyedLaws.{IsTable-total}
use Rattle.lara_data.specs.Apart.{keys_total, keys_append}
use Rattle.lara_data.specs.KeyedTypes.{total_has}
use Rattle.lara_data.specs.TupleOrders.{tuple_order}
use Rattle.lara_data.specs.Names.{Name, Tuple, same_name, same_name_is, same_name_itself, has, has_head, read, cut, among, among_by, distinct, common, others, cut_itself, not_true}
use Rattle.lara_data.specs.Tables.{Entry, Entries, Table, table_of, recut}
use Rattle.lara_data.specs.Algebra.{Heading, heading, common_vals, union_heading, agree, join_key, join_row, pair, pairs, join, shares, union, agg, key_col, key_cols, join_columns, union_columns, agg_columns, join_tables, union_tables, agg_table}
use Rattle.lara_data.specs.AlgebraAt.{IsTable-join, IsTable-union, IsTable-agg}
use Rattle.lara_data.specs.AlgebraTyped.{all_have_join, all_have_union, all_have_agg}
use Rattle.lara_data.specs.Sequences.{has_filter}
use Rattle.lara_data.specs.DistinctColumns.{distinct_key_names}

-- the key has one column of the type of each key column
abbrev pub KeyHas : List KeyCol → Tuple → Type 0
KeyHas keys x = tuple_has (key_types keys) x ≡ true

-- each key once, in rising order, and no default row; keys and rows of the table's type
pub record IsTypedTable (t : Table) : Type 0 where
  pub columns : are_columns t.ty.keys t.ty.vals ≡ true
  pub table : IsTable tuple_cmp (types t.ty.vals) t.entries
  pub rows : all_have (types t.ty.vals) t.entries ≡ true
  pub keys : AllKeys (KeyHas t.ty.keys) t.entries

-- ---- keys

tuple_has_append : (ts us : List KeyType) (x y : Tuple) → tuple_has ts x ≡ true → tuple_has us y ≡ true → tuple_has (ts ++ us) (x ++ y) ≡ true
unfolding tuple_has
tuple_has_append [] us [] y p q = q
tuple_has_append [] us (v ∷ x) y p q = cc
tuple_has_append (t ∷ ts) us [] y p q = cc
tuple_has_append (t ∷ ts) us (v ∷ x) y p q = and_from _ _ (and_parts (has_key_type t v) (tuple_has ts x) p).0 (tuple_has_append ts us x y (and_parts (has_key_type t v) (tuple_has ts x) p).1 q)

pub key_has_append : (ks ls : List KeyCol) (x y : Tuple) → KeyHas ks x → KeyHas ls y → KeyHas (ks ++ ls) (x ++ y)
key_has_append ks ls x y p q = ap (λ ts. tuple_has ts (x ++ y)) (map-append (λ (k : KeyCol). k.ty) ks ls) ∙ tuple_has_append (key_types ks) (key_types ls) x y p q

pub one_has : (k : KeyCol) (v : KeyVal) → has_key_type k.ty v ≡ true → KeyHas (k ∷ []) (v ∷ [])
unfolding tuple_has
one_has k v h = and_from _ _ h refl

-- what is read in a column has the column's type
read_has : (keys : List KeyCol) (x : Tuple) (n : Name) → has (key_names keys) n ≡ true → KeyHas keys x → KeyHas (key_col keys n) (read (key_names keys) x n ∷ [])
unfolding has read key_col tuple_has
read_has [] x n h p = cc
read_has (k ∷ keys) [] n h p = cc
read_has (k ∷ keys) (v ∷ x) n h p =
    elim (same_name n k.name) as (λ b. (b || has (key_names keys) n) ≡ true → tuple_has (key_types (cond b (k ∷ []) (key_col keys n))) (cond b v (read (key_names keys) x n) ∷ []) ≡ true) [
      | true ↦ λ e. one_has k v (and_parts (has_key_type k.ty v) (tuple_has (key_types keys) x) p).0
      | false ↦ λ e. read_has keys x n e (and_parts (has_key_type k.ty v) (tuple_has (key_types keys) x) p).1
    ] h

-- a cut key has the types of the columns it is cut to
pub cut_has : (keys : List KeyCol) (ks : List Name) (x : Tuple) → among (key_names keys) ks ≡ true → KeyHas keys x → KeyHas (key_cols keys ks) (cut (key_names keys) ks x)
unfolding among cut key_cols tuple_has
cut_has keys [] x h p = refl
cut_has keys (n ∷ ks) x h p =
    key_has_append (key_col keys n) (key_cols keys ks) (read (key_names keys) x n ∷ []) (cut (key_names keys) ks x) (read_has keys x n (and_parts (has (key_names keys) n) (among (key_names keys) ks) h).0 p) (cut_has keys ks x (and_parts (has (key_names keys) n) (among (key_names keys) ks) h).1 p)

skip_col : (k : KeyCol) (keys : List KeyCol) (n : Name) → same_name n k.name ≡ false → key_col (k ∷ keys) n ≡ key_col keys n
unfolding key_col
skip_col k keys n h = ap (λ b. cond b (k ∷ []) (key_col keys n)) h

own_col : (k : KeyCol) (keys : List KeyCol) → key_col (k ∷ keys) k.name ≡ k ∷ []
unfolding key_col
own_col k keys = ap (λ b. cond b (k ∷ []) (key_col keys k.name)) (same_name_itself k.name)

has_behind : (n : Name) (ns : List Name) (m : Name) → has (n ∷ ns) m ≡ false → has ns m ≡ false
unfolding has
has_behind n ns m h = (or_parts (same_name m n) (has ns m) h).1

-- columns whose names pass a test, found by these names
filtered_cols : (p : Name → Bool) (keys : List KeyCol) → distinct (key_names keys) ≡ true → key_cols keys (filter p (key_names keys)) ≡ filter (λ k. p k.name) keys
unfolding key_cols distinct
filtered_cols p [] d = refl
filtered_cols p (k ∷ keys) d =
    let fresh = not_true (has (key_names keys) k.name) (and_parts (not (has (key_names keys) k.name)) (distinct (key_names keys)) d).0 in
    let rest : key_cols (k ∷ keys) (filter p (key_names keys)) ≡ filter (λ k. p k.name) keys = skipped (filter p (key_names keys)) (not_filtered fresh) ∙ filtered_cols p keys (and_parts (not (has (key_names keys) k.name)) (distinct (key_names keys)) d).1 in
    elim (p k.name) as (λ b. key_cols (k ∷ keys) (cond b (k.name ∷ filter p (key_names keys)) (filter p (key_names keys))) ≡ cond b (k ∷ filter (λ k. p k.name) keys) (filter (λ k. p k.name) keys)) [
      | true ↦ λ i. own_col k keys i ++ rest i
      | false ↦ rest
    ]
  where
    not_filtered : has (key_names keys) k.name ≡ false → has (filter p (key_names keys)) k.name ≡ false
    not_filtered f = has_filter p (key_names keys) k.name ∙ ap (λ b. b && p k.name) f

    away : (n : Name) (ns : List Name) → has (n ∷ ns) k.name ≡ false → same_name n k.name ≡ false
    away n ns f =
        elim (same_name n k.name) as (λ b. same_name n k.name ≡ b → b ≡ false) [
          | true ↦ λ e. let s : has (n ∷ ns) k.name ≡ true = ap (has (n ∷ ns)) (sym (same_name_is n k.name e)) ∙ has_head n ns in sym s ∙ f
          | false ↦ λ e. refl
        ] refl

    skipped : (ns : List Name) → has ns k.name ≡ false → key_cols (k ∷ keys) ns ≡ key_cols keys ns
    skipped [] f = refl
    skipped (n ∷ ns) f = λ i. skip_col k keys n (away n ns f) i ++ skipped ns (has_behind n ns k.name f) i

key_length : (keys : List KeyCol) (x : Tuple) → KeyHas keys x → length x ≡ length (key_names keys)
key_length keys x p = tuple_has_length (key_types keys) x p ∙ length-map keys (λ k. k.ty) ∙ sym (length-map keys (λ k. k.name))

among_filter : (p : Name → Bool) (ns : List Name) → among ns (filter p ns) ≡ true
among_filter p ns = among_by ns (filter p ns) (λ n h. (and_parts (has ns n) (p n) (sym (has_filter p ns n) ∙ h)).0)

-- a key cut to the columns that pass a test
filtered_has : (p : Name → Bool) (keys : List KeyCol) (x : Tuple) → distinct (key_names keys) ≡ true → KeyHas keys x → KeyHas (filter (λ k. p k.name) keys) (cut (key_names keys) (filter p (key_names keys)) x)
filtered_has p keys x d h =
    ap (λ ks. tuple_has (key_types ks) (cut (key_names keys) (filter p (key_names keys)) x)) (sym (filtered_cols p keys d))
    ∙ cut_has keys (filter p (key_names keys)) x (among_filter p (key_names keys)) h

pub join_key_has : (s t : Columns) (x y : Tuple) → distinct (key_names s.keys) ≡ true → distinct (key_names t.keys) ≡ true → KeyHas s.keys x → KeyHas t.keys y → KeyHas (join_columns s t).keys (join_key (heading s) (heading t) x y)
unfolding join_key others
join_key_has s t x y d e p q =
    let own : cut (key_names s.keys) (key_names s.keys) x ≡ x = cut_itself (key_names s.keys) x d (key_length s.keys x p) in
    key_has_append s.keys (filter (λ k. not (has (key_names s.keys) k.name)) t.keys) (cut (key_names s.keys) (key_names s.keys) x) (cut (key_names t.keys) (filter (λ n. not (has (key_names s.keys) n)) (key_names t.keys)) y)
    (ap (tuple_has (key_types s.keys)) own ∙ p) (filtered_has (λ n. not (has (key_names s.keys) n)) t.keys y e q)

keys_pair : (s t : Columns) (x y : Entry) → distinct (key_names s.keys) ≡ true → distinct (key_names t.keys) ≡ true → KeyHas s.keys x.key → KeyHas t.keys y.key → AllKeys (KeyHas (join_columns s t).keys) (pair (heading s) (heading t) x y)
unfolding AllKeys
keys_pair s t x y d e p q =
    elim (agree (heading s) (heading t) x.key y.key) as (λ c. AllKeys (KeyHas (join_columns s t).keys) (cond c (record { key = join_key (heading s) (heading t) x.key y.key; row = join_row (heading s) (heading t) x.row y.row } ∷ []) [])) [
      | true ↦ (join_key_has s t x.key y.key d e p q, tt)
      | false ↦ tt
    ]

keys_pairs_of : (s t : Columns) (x : Entry) (ys : Entries) → distinct (key_names s.keys) ≡ true → distinct (key_names t.keys) ≡ true → KeyHas s.keys x.key → AllKeys (KeyHas t.keys) ys → AllKeys (KeyHas (join_columns s t).keys) (flat_map (pair (heading s) (heading t) x) ys)
unfolding AllKeys
keys_pairs_of s t x [] d e p q = tt
keys_pairs_of s t x (y ∷ ys) d e p q =
    keys_append tuple_order (KeyHas (join_columns s t).keys) (pair (heading s) (heading t) x y) (flat_map (pair (heading s) (heading t) x) ys) (keys_pair s t x y d e p q.0) (keys_pairs_of s t x ys d e p q.1)

keys_pairs : (s t : Columns) (xs ys : Entries) → distinct (key_names s.keys) ≡ true → distinct (key_names t.keys) ≡ true → AllKeys (KeyHas s.keys) xs → AllKeys (KeyHas t.keys) ys → AllKeys (KeyHas (join_columns s t).keys) (pairs (heading s) (heading t) xs ys)
unfolding AllKeys pairs
keys_pairs s t [] ys d e p q = tt
keys_pairs s t (x ∷ xs) ys d e p q =
    keys_append tuple_order (KeyHas (join_columns s t).keys) (flat_map (pair (heading s) (heading t) x) ys) (flat_map (λ x. flat_map (pair (heading s) (heading t) x) ys) xs) (keys_pairs_of s t x ys d e p.0 q) (keys_pairs s t xs ys d e p.1 q)

keys_recut : (keys : List KeyCol) (ks : List Name) (es : Entries) → among (key_names keys) ks ≡ true → AllKeys (KeyHas keys) es → AllKeys (KeyHas (key_cols keys ks)) (recut (key_names keys) ks es)
unfolding AllKeys recut
keys_recut keys ks [] h p = tt
keys_recut keys ks (e ∷ es) h p = (cut_has keys ks e.key h p.0, keys_recut keys ks es h p.1)

keys_shares : (t : Columns) (c : Heading) (es : Entries) → among (key_names t.keys) c.keys ≡ true → AllKeys (KeyHas t.keys) es → AllKeys (KeyHas (key_cols t.keys c.keys)) (shares (heading t) c es)
unfolding AllKeys shares
keys_shares t c [] h p = tt
keys_shares t c (e ∷ es) h p = (cut_has t.keys c.keys e.key h p.0, keys_shares t c es h p.1)

-- ---- the operations

pub IsTypedTable-join : (s t : Table) → are_columns (join_columns s.ty t.ty).keys (join_columns s.ty t.ty).vals ≡ true → IsTypedTable s → IsTypedTable t → IsTypedTable (join_tables s t)
unfolding join_tables join
IsTypedTable-join s t c p q =
    let a = heading s.ty in
    let b = heading t.ty in
    record {
      columns = c;
      table = IsTable-join a b s.entries t.entries;
      rows = all_have_join a b s.entries t.entries p.rows q.rows;
      keys = keys_total tuple_order (KeyHas (join_columns s.ty t.ty).keys) (types (common_vals a.vals b.vals)) (pairs a b s.entries t.entries) (keys_pairs s.ty t.ty s.entries t.entries (distinct_key_names s.ty.keys s.ty.vals p.columns) (distinct_key_names t.ty.keys t.ty.vals q.columns) p.keys q.keys);
    }

pub IsTypedTable-agg : (t : Table) (ks : List Name) → are_columns (agg_columns t.ty ks).keys (agg_columns t.ty ks).vals ≡ true → among (key_names t.ty.keys) ks ≡ true → IsTypedTable t → IsTypedTable (agg_table t ks)
unfolding agg_table agg
IsTypedTable-agg t ks c h p =
    let a = heading t.ty in
    record {
      columns = c;
      table = IsTable-agg a ks t.entries;
      rows = all_have_agg a ks t.entries p.rows;
      keys = keys_total tuple_order (KeyHas (agg_columns t.ty ks).keys) (types a.vals) (recut a.keys ks t.entries) (keys_recut t.ty.keys ks t.entries h p.keys);
    }

-- the common key columns have the same types on both sides
abbrev pub SameKeyTypes : Columns → Columns → Type 0
SameKeyTypes s t = key_types (key_cols s.keys (common (key_names s.keys) (key_names t.keys))) ≡ key_types (key_cols t.keys (common (key_names s.keys) (key_names t.keys)))

keys_subst : (ks ls : List KeyCol) (es : Entries) → key_types ks ≡ key_types ls → AllKeys (KeyHas ks) es → AllKeys (KeyHas ls) es
keys_subst ks ls es e h = subst (λ (ts : List KeyType). AllKeys (λ x. tuple_has ts x ≡ true) es) e h

pub IsTypedTable-union : (s t : Table) → are_columns (union_columns s.ty t.ty).keys (union_columns s.ty t.ty).vals ≡ true → SameKeyTypes s.ty t.ty → IsTypedTable s → IsTypedTable t → IsTypedTable (union_tables s t)
unfolding union_tables union common
IsTypedTable-union s t c same p q =
    let a = heading s.ty in
    let b = heading t.ty in
    let u = union_heading a b in
    let ks = (union_columns s.ty t.ty).keys in
    let own : key_cols s.ty.keys (filter (has (key_names t.ty.keys)) (key_names s.ty.keys)) ≡ ks = filtered_cols (has (key_names t.ty.keys)) s.ty.keys (distinct_key_names s.ty.keys s.ty.vals p.columns) in
    let in_left : among (key_names s.ty.keys) u.keys ≡ true = among_filter (has (key_names t.ty.keys)) (key_names s.ty.keys) in
    let in_right : among (key_names t.ty.keys) u.keys ≡ true = among_by (key_names t.ty.keys) u.keys (λ n h. (and_parts (has (key_names s.ty.keys) n) (has (key_names t.ty.keys) n) (sym (has_filter (has (key_names t.ty.keys)) (key_names s.ty.keys) n) ∙ h)).1) in
    let lefts : AllKeys (KeyHas ks) (shares a u s.entries) = keys_subst (key_cols s.ty.keys u.keys) ks (shares a u s.entries) (ap key_types own) (keys_shares s.ty u s.entries in_left p.keys) in
    let rights : AllKeys (KeyHas ks) (shares b u t.entries) = keys_subst (key_cols t.ty.keys u.keys) ks (shares b u t.entries) (sym same ∙ ap key_types own) (keys_shares t.ty u t.entries in_right q.keys) in
    record {
      columns = c;
      table = IsTable-union a b s.entries t.entries;
      rows = all_have_union a b s.entries t.entries p.rows q.rows;
      keys = keys_total tuple_order (KeyHas ks) (types u.vals) (shares a u s.entries ++ shares b u t.entries) (keys_append tuple_order (KeyHas ks) (shares a u s.entries) (shares b u t.entries) lefts rights);
    }

-- the table of a list of entries of the type
pub IsTypedTable-table_of : (ty : Columns) (es : Entries) → are_columns ty.keys ty.vals ≡ true → all_have (types ty.vals) es ≡ true → AllKeys (KeyHas ty.keys) es → IsTypedTable (table_of ty es)
unfolding table_of
IsTypedTable-table_of ty es c r k = record {
  columns = c;
  table = IsTable-total tuple_order (types ty.vals) es;
  rows = total_has tuple_order (types ty.vals) es r;
  keys = keys_total tuple_order (KeyHas ty.keys) (types ty.vals) es k;
}
