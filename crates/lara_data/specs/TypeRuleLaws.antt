-- The columns that the type rules give are a table's, and what the rules keep.
use Rattle.std.specs.Prelude.{◌≡◌, ◌≤◌, ◌<◌, Bool, true, false, cond, ◌&&◌, ◌||◌, not, nat_lt, nat_le, List, [], ◌∷◌, ◌++◌, length, filter, map, Ok, Err}
use Rattle.std.proofs.Common.{refl, sym, ap, ◌∙◌, arith}
use Rattle.std.specs.List.{list_any}
use Rattle.std.proofs.Math.Bool.{and-false}
use Rattle.std.proofs.lemmas.Bool.{ltb-true, ltb-false, leb-true, le-leb, and_parts, and_from, or_parts, or_left, or_right, not-false, both_ways, false_from_ne_true}
use Rattle.std.proofs.lemmas.List.{length-map, map-append}
use Rattle.std.proofs.lemmas.List.Folds.{list_any-append}
use Rattle.lara_data.specs.declared.refusal.Kind.TheVariants.{NameTwice, TooManyColumns, TypesDiffer, NoCommonValue, NotAKey}
use Rattle.lara_data.specs.declared.table_type.KeyCol.{KeyCol}
use Rattle.lara_data.specs.declared.table_type.ValCol.{ValCol}
use Rattle.lara_data.specs.TableTypes.{Columns, key_names, val_names, column_names, are_columns, most_columns}
use Rattle.lara_data.specs.Names.{Name, same_name, same_name_is, same_name_itself, has, has_append, has_among, among, distinct, common, others, or_by, not_true}
use Rattle.lara_semiring.specs.Values.{same_val_type}
use Rattle.lara_data.specs.Vals.{Vals, same_col, same_col_is, same_col_itself, has_col}
use Rattle.lara_data.specs.Sequences.{SameNames, SameNames-by, has_filter, has_others}
use Rattle.lara_data.specs.DistinctNames.{distinct_append, distinct_filter, distinct_others, distinct_left, distinct_right, distinct_apart, filter_shorter, same_length}
use Rattle.lara_data.specs.DistinctColumns.{distinct_names, distinct_key_names}
use Rattle.lara_data.specs.Algebra.{common_vals, key_cols, join_columns, union_columns, agg_columns}
use Rattle.lara_data.specs.Headings.{heading_join, heading_union, names_key_cols}
use Rattle.lara_data.specs.TypeRules.{Typing, Column, key_column, val_column, all_columns, clash, clashes, types_differ, is_none, too_many, few_enough, join_type, union_type, agg_type}

-- ---- columns of both kinds

any_map : {A : Type 0} (p : Column → Bool) (f : A → Column) (xs : List A) → list_any p (map f xs) ≡ list_any (λ x. p (f x)) xs
any_map p f [] = refl
any_map p f (x ∷ xs) = ap (λ b. p (f x) || b) (any_map p f xs)

-- a test of all columns is one of the key columns and one of the value columns
pub any_column : (p : Column → Bool) (c : Columns) → list_any p (all_columns c) ≡ (list_any (λ k. p (key_column k)) c.keys || list_any (λ v. p (val_column v)) c.vals)
any_column p c = list_any-append p (map key_column c.keys) (map val_column c.vals) ∙ (λ i. any_map p key_column c.keys i || any_map p val_column c.vals i)

pub any_key : (p : Column → Bool) (c : Columns) → list_any p (all_columns c) ≡ false → list_any (λ k. p (key_column k)) c.keys ≡ false
any_key p c h = (or_parts _ (list_any (λ v. p (val_column v)) c.vals) (sym (any_column p c) ∙ h)).0

pub any_val : (p : Column → Bool) (c : Columns) → list_any p (all_columns c) ≡ false → list_any (λ v. p (val_column v)) c.vals ≡ false
any_val p c h = (or_parts (list_any (λ k. p (key_column k)) c.keys) _ (sym (any_column p c) ∙ h)).1

-- ---- names of value columns

names_append : (vs ws : Vals) → val_names (vs ++ ws) ≡ val_names vs ++ val_names ws
names_append vs ws = map-append (λ (v : ValCol). v.name) vs ws

-- a name that no value column has is none of those that pass a test
no_val_filter : (p : ValCol → Bool) (n : Name) (vals : Vals) → has (val_names vals) n ≡ false → has (val_names (filter p vals)) n ≡ false
unfolding has
no_val_filter p n [] h = refl
no_val_filter p n (v ∷ vals) h =
    let q = or_parts (same_name n v.name) (has (val_names vals) n) h in
    let rest = no_val_filter p n vals q.1 in
    elim (p v) as (λ b. has (val_names (cond b (v ∷ filter p vals) (filter p vals))) n ≡ false) [
      | true ↦ (λ i. q.0 i || rest i)
      | false ↦ rest
    ]

no_val_append : (n : Name) (vs ws : Vals) → has (val_names vs) n ≡ false → has (val_names ws) n ≡ false → has (val_names (vs ++ ws)) n ≡ false
no_val_append n vs ws h g = ap (λ ns. has ns n) (names_append vs ws) ∙ has_append (val_names vs) (val_names ws) n ∙ (λ i. h i || g i)

vals_filter : (p : ValCol → Bool) (vals : Vals) → distinct (val_names vals) ≡ true → distinct (val_names (filter p vals)) ≡ true
unfolding distinct
vals_filter p [] h = refl
vals_filter p (v ∷ vals) h =
    let q = and_parts (not (has (val_names vals) v.name)) (distinct (val_names vals)) h in
    let fresh = not_true (has (val_names vals) v.name) q.0 in
    let rest = vals_filter p vals q.1 in
    elim (p v) as (λ b. distinct (val_names (cond b (v ∷ filter p vals) (filter p vals))) ≡ true) [
      | true ↦ and_from (not (has (val_names (filter p vals)) v.name)) (distinct (val_names (filter p vals))) (ap not (no_val_filter p v.name vals fresh)) rest
      | false ↦ rest
    ]

-- a value column that is among others has its name among theirs
named_val : (ds : Vals) (c : ValCol) → has_col ds c ≡ true → has (val_names ds) c.name ≡ true
unfolding has_col has
named_val [] c h = cc
named_val (d ∷ ds) c h =
    elim (same_col c d) as (λ b. same_col c d ≡ b → has (val_names (d ∷ ds)) c.name ≡ true) [
      | true ↦ λ s. or_left (same_name c.name d.name) (has (val_names ds) c.name) (ap (λ (x : ValCol). same_name c.name x.name) (sym (same_col_is c d s)) ∙ same_name_itself c.name)
      | false ↦ λ s. or_right (same_name c.name d.name) (has (val_names ds) c.name) (named_val ds c (or_by (same_col c d) (has_col ds c) s h))
    ] refl

-- a name that no right value column has is none of a common one
no_common : (n : Name) (cs ds : Vals) → has (val_names ds) n ≡ false → has (val_names (common_vals cs ds)) n ≡ false
unfolding has
no_common n [] ds h = refl
no_common n (c ∷ cs) ds h =
    elim (has_col ds c) as (λ b. has_col ds c ≡ b → has (val_names (cond b (c ∷ filter (has_col ds) cs) (filter (has_col ds) cs))) n ≡ false) [
      | true ↦ λ s.
          let fresh : same_name n c.name ≡ false = other_name c.name n ds s h in
          (λ i. fresh i || no_common n cs ds h i)
      | false ↦ λ s. no_common n cs ds h
    ] refl
  where
    other_name : (m n : Name) (ds : Vals) → has_col ds c ≡ true → has (val_names ds) n ≡ false → same_name n c.name ≡ false
    other_name m n ds s h = false_from_ne_true (same_name n c.name) (λ e. both_ways (has (val_names ds) n) h (ap (has (val_names ds)) (same_name_is n c.name e) ∙ named_val ds c s))

-- ---- few columns

pub few_columns : (keys : List KeyCol) (vals : Vals) → length keys ≤ most_columns → 0 < length vals → length vals ≤ most_columns → distinct (column_names keys vals) ≡ true → are_columns keys vals ≡ true
unfolding are_columns
few_columns keys vals k v w d =
    and_from (nat_le (length keys) most_columns && nat_le 1 (length vals) && nat_le (length vals) most_columns) (distinct (column_names keys vals))
    (and_from (nat_le (length keys) most_columns && nat_le 1 (length vals)) (nat_le (length vals) most_columns)
    (and_from (nat_le (length keys) most_columns) (nat_le 1 (length vals)) (le-leb (length keys) most_columns k) (le-leb 1 (length vals) (omega (arith, v))))
    (le-leb (length vals) most_columns w)) d

-- what a table's columns are known to be
pub record Few (keys : List KeyCol) (vals : Vals) : Type 0 where
  pub keys_few : length keys ≤ most_columns
  pub vals_some : 0 < length vals
  pub vals_few : length vals ≤ most_columns

pub few_of : (keys : List KeyCol) (vals : Vals) → are_columns keys vals ≡ true → Few keys vals
unfolding are_columns
few_of keys vals h =
    let front = (and_parts (nat_le (length keys) most_columns && nat_le 1 (length vals) && nat_le (length vals) most_columns) (distinct (column_names keys vals)) h).0 in
    let both = and_parts (nat_le (length keys) most_columns && nat_le 1 (length vals)) (nat_le (length vals) most_columns) front in
    let one = and_parts (nat_le (length keys) most_columns) (nat_le 1 (length vals)) both.0 in
    let some = leb-true 1 (length vals) one.1 in
    record { keys_few = leb-true (length keys) most_columns one.0; vals_some = omega (arith, some); vals_few = leb-true (length vals) most_columns both.1 }

-- columns that differ, of which there is a value column and not too many of either kind, are a table's
pub of_few : (c : Columns) → too_many c ≡ false → 0 < length c.vals → distinct (column_names c.keys c.vals) ≡ true → are_columns c.keys c.vals ≡ true
unfolding too_many
of_few c h v d =
    let few = or_parts (nat_lt most_columns (length c.keys)) (nat_lt most_columns (length c.vals)) h in
    few_columns c.keys c.vals (ltb-false most_columns (length c.keys) few.0) v (ltb-false most_columns (length c.vals) few.1) d

-- the names of a type's columns
abbrev names_in : Columns → List Name
names_in c = column_names c.keys c.vals

-- ---- join

distinct_join : (a b : Columns) → distinct (names_in a) ≡ true → distinct (names_in b) ≡ true → distinct (names_in (join_columns a b)) ≡ true
distinct_join a b p q =
    let ks = key_names a.keys in
    let ls = key_names b.keys in
    let c = join_columns a b in
    let names : key_names c.keys ≡ ks ++ others ks ls = ap (λ h. h.keys) (heading_join a b) in
    distinct_append (key_names c.keys) (val_names c.vals)
    (ap distinct names ∙ distinct_others ks ls (distinct_left ks (val_names a.vals) p) (distinct_left ls (val_names b.vals) q))
    (vals_filter (has_col b.vals) a.vals (distinct_right ks (val_names a.vals) p))
    (λ n g. apart n (sym (ap (λ ns. has ns n) names ∙ has_append ks (others ks ls) n ∙ ap (λ t. has ks n || t) (has_others ks ls n)) ∙ g))
  where
    apart : (n : Name) → (has (key_names a.keys) n || (has (key_names b.keys) n && not (has (key_names a.keys) n))) ≡ true → has (val_names (common_vals a.vals b.vals)) n ≡ false
    apart n g =
        elim (has (key_names a.keys) n) as (λ t. has (key_names a.keys) n ≡ t → (t || (has (key_names b.keys) n && not t)) ≡ true → has (val_names (common_vals a.vals b.vals)) n ≡ false) [
          | true ↦ λ s h. no_val_filter (has_col b.vals) n a.vals (distinct_apart (key_names a.keys) (val_names a.vals) n p s)
          | false ↦ λ s h. no_common n a.vals b.vals (distinct_apart (key_names b.keys) (val_names b.vals) n q ((and_parts (has (key_names b.keys) n) true h).0))
        ] refl g

-- ---- union

-- a test that does not hold without another
pub not_alone : (p q : Bool) → p ≡ true → (p && not q) ≡ false → q ≡ true
not_alone true true e h = refl
not_alone true false e h = sym h
not_alone false q e h = cc

-- a right value column of a left one's name is the left one, where they do not clash
same_by : (v d : ValCol) → clash (val_column v) (val_column d) ≡ false → same_name v.name d.name ≡ true → same_col v d ≡ true
unfolding same_col
same_by v d h e = and_from (same_name v.name d.name) (same_val_type v.ty d.ty) e (not_alone (same_name v.name d.name) (same_val_type v.ty d.ty) e h)

-- a left value column's name is none of a right-only one
not_right : (cs ds : Vals) (v : ValCol) → has_col cs v ≡ true → list_any (λ d. clash (val_column v) (val_column d)) ds ≡ false → has (val_names (filter (λ d. not (has_col cs d)) ds)) v.name ≡ false
unfolding has
not_right cs [] v h g = refl
not_right cs (d ∷ ds) v h g =
    let parts = or_parts (clash (val_column v) (val_column d)) (list_any (λ d. clash (val_column v) (val_column d)) ds) g in
    let rest = not_right cs ds v h parts.1 in
    elim (has_col cs d) as (λ b. has_col cs d ≡ b → has (val_names (cond (not b) (d ∷ filter (λ d. not (has_col cs d)) ds) (filter (λ d. not (has_col cs d)) ds))) v.name ≡ false) [
      | true ↦ λ s. rest
      | false ↦ λ s.
          let fresh : same_name v.name d.name ≡ false = false_from_ne_true (same_name v.name d.name) (λ e. both_ways (has_col cs d) s (ap (has_col cs) (sym (same_col_is v d (same_by v d parts.0 e))) ∙ h)) in
          (λ i. fresh i || rest i)
    ] refl

vals_append : (vs ws : Vals) → distinct (val_names vs) ≡ true → distinct (val_names ws) ≡ true → ((v : ValCol) → has_col vs v ≡ true → has (val_names ws) v.name ≡ false) → distinct (val_names (vs ++ ws)) ≡ true
unfolding has_col distinct
vals_append [] ws h g f = g
vals_append (v ∷ vs) ws h g f =
    let parts = and_parts (not (has (val_names vs) v.name)) (distinct (val_names vs)) h in
    and_from (not (has (val_names (vs ++ ws)) v.name)) (distinct (val_names (vs ++ ws)))
    (ap not (no_val_append v.name vs ws (not_true (has (val_names vs) v.name) parts.0) (f v (or_left (same_col v v) (has_col vs v) (same_col_itself v)))))
    (vals_append vs ws parts.1 g (λ w k. f w (or_right (same_col w v) (has_col vs w) k)))

-- what no value column of the left meets, none of these does
at_col : (p : ValCol → Bool) (vs : Vals) (v : ValCol) → list_any p vs ≡ false → has_col vs v ≡ true → p v ≡ false
unfolding has_col
at_col p [] v h g = cc
at_col p (w ∷ vs) v h g =
    elim (same_col v w) as (λ b. same_col v w ≡ b → p v ≡ false) [
      | true ↦ λ s. ap p (same_col_is v w s) ∙ (or_parts (p w) (list_any p vs) h).0
      | false ↦ λ s. at_col p vs v ((or_parts (p w) (list_any p vs) h).1) (or_by (same_col v w) (has_col vs v) s g)
    ] refl

vals_agree : (a b : Columns) (v : ValCol) → types_differ a b ≡ false → has_col a.vals v ≡ true → list_any (λ d. clash (val_column v) (val_column d)) b.vals ≡ false
unfolding types_differ
vals_agree a b v h g = any_val (clash (val_column v)) b (at_col (λ w. clashes b (val_column w)) a.vals v (any_val (clashes b) a h) g)

distinct_union : (a b : Columns) → types_differ a b ≡ false → distinct (names_in a) ≡ true → distinct (names_in b) ≡ true → distinct (names_in (union_columns a b)) ≡ true
unfolding common
distinct_union a b t p q =
    let ks = key_names a.keys in
    let ls = key_names b.keys in
    let c = union_columns a b in
    let only : Vals = filter (λ v. not (has_col a.vals v)) b.vals in
    let names : key_names c.keys ≡ filter (has ls) ks = ap (λ h. h.keys) (heading_union a b) in
    distinct_append (key_names c.keys) (val_names c.vals)
    (ap distinct names ∙ distinct_filter (has ls) ks (distinct_left ks (val_names a.vals) p))
    (vals_append a.vals only (distinct_right ks (val_names a.vals) p) (vals_filter (λ v. not (has_col a.vals v)) b.vals (distinct_right ls (val_names b.vals) q)) (λ v g. not_right a.vals b.vals v g (vals_agree a b v t g)))
    (λ n g.
    let there = and_parts (has ks n) (has ls n) (sym (ap (λ ns. has ns n) names ∙ has_filter (has ls) ks n) ∙ g) in
    no_val_append n a.vals only (distinct_apart ks (val_names a.vals) n p there.0)
    (no_val_filter (λ v. not (has_col a.vals v)) n b.vals (distinct_apart ls (val_names b.vals) n q there.1)))

-- ---- agg

-- distinct names among others are at most as many
at_most : (ns ks : List Name) → distinct ns ≡ true → distinct ks ≡ true → among ns ks ≡ true → length ks ≤ length ns
at_most ns ks d e h =
    let same : SameNames ks (filter (has ks) ns) = SameNames-by ks (filter (has ks) ns) (λ n. sym (has_filter (has ks) ns n ∙ there n)) in
    let one = same_length ks (filter (has ks) ns) e (distinct_filter (has ks) ns d) same in
    let two = filter_shorter (has ks) ns in
    omega (arith, one, two)
  where
    there : (n : Name) → (has ns n && has ks n) ≡ has ks n
    there n =
        elim (has ks n) as (λ b. has ks n ≡ b → (has ns n && b) ≡ b) [
          | true ↦ λ s. and_from (has ns n) true (has_among ns ks n h s) refl
          | false ↦ λ s. and-false (has ns n)
        ] refl

distinct_agg : (a : Columns) (ks : List Name) → distinct (names_in a) ≡ true → among (key_names a.keys) ks ≡ true → distinct ks ≡ true → distinct (names_in (agg_columns a ks)) ≡ true
distinct_agg a ks p h d =
    let names = names_key_cols a.keys ks h in
    distinct_append (key_names (key_cols a.keys ks)) (val_names a.vals) (ap distinct names ∙ d) (distinct_right (key_names a.keys) (val_names a.vals) p)
    (λ n g. distinct_apart (key_names a.keys) (val_names a.vals) n p (has_among (key_names a.keys) ks n h (sym (ap (λ ns. has ns n) names) ∙ g)))

-- ---- the rules

-- the rules that a join of type c meets
pub record IsJoin (a b c : Columns) : Type 0 where
  pub agree : types_differ a b ≡ false
  pub some : is_none (common_vals a.vals b.vals) ≡ false
  pub few : too_many (join_columns a b) ≡ false
  pub is : join_columns a b ≡ c

-- the rules that a union of type c meets
pub record IsUnion (a b c : Columns) : Type 0 where
  pub agree : types_differ a b ≡ false
  pub few : too_many (union_columns a b) ≡ false
  pub is : union_columns a b ≡ c

-- the rules that an agg by ks of type c meets
pub record IsAgg (a : Columns) (ks : List Name) (c : Columns) : Type 0 where
  pub keys : among (key_names a.keys) ks ≡ true
  pub once : distinct ks ≡ true
  pub is : agg_columns a ks ≡ c

abbrev typing_or : Columns → Typing → Columns
typing_or d (Ok c) = c
typing_or d (Err kind) = d

pub join_type_rules : (a b c : Columns) → join_type a b ≡ Ok c → IsJoin a b c
unfolding join_type
join_type_rules a b c h =
    elim (types_differ a b) as (λ x. types_differ a b ≡ x → (cond x (Err TypesDiffer) (cond (is_none (common_vals a.vals b.vals)) (Err NoCommonValue) (few_enough (join_columns a b)))) ≡ Ok c → IsJoin a b c) [
      | true ↦ λ s g. cc
      | false ↦ λ s g.
          elim (is_none (common_vals a.vals b.vals)) as (λ y. is_none (common_vals a.vals b.vals) ≡ y → (cond y (Err NoCommonValue) (few_enough (join_columns a b))) ≡ Ok c → IsJoin a b c) [
            | true ↦ λ t f. cc
            | false ↦ λ t f.
                elim (too_many (join_columns a b)) as (λ z. too_many (join_columns a b) ≡ z → (cond z (Err TooManyColumns) (Ok (join_columns a b))) ≡ Ok c → IsJoin a b c) [
                  | true ↦ λ u e. cc
                  | false ↦ λ u e. record { agree = s; some = t; few = u; is = ap (typing_or c) e }
                ] refl f
          ] refl g
    ] refl h

pub union_type_rules : (a b c : Columns) → union_type a b ≡ Ok c → IsUnion a b c
unfolding union_type
union_type_rules a b c h =
    elim (types_differ a b) as (λ x. types_differ a b ≡ x → (cond x (Err TypesDiffer) (few_enough (union_columns a b))) ≡ Ok c → IsUnion a b c) [
      | true ↦ λ s g. cc
      | false ↦ λ s g.
          elim (too_many (union_columns a b)) as (λ z. too_many (union_columns a b) ≡ z → (cond z (Err TooManyColumns) (Ok (union_columns a b))) ≡ Ok c → IsUnion a b c) [
            | true ↦ λ u e. cc
            | false ↦ λ u e. record { agree = s; few = u; is = ap (typing_or c) e }
          ] refl g
    ] refl h

pub agg_type_rules : (a : Columns) (ks : List Name) (c : Columns) → agg_type a ks ≡ Ok c → IsAgg a ks c
unfolding agg_type
agg_type_rules a ks c h =
    elim (among (key_names a.keys) ks) as (λ x. among (key_names a.keys) ks ≡ x → (cond x (cond (distinct ks) (Ok (agg_columns a ks)) (Err NameTwice)) (Err NotAKey)) ≡ Ok c → IsAgg a ks c) [
      | true ↦ λ s g.
          elim (distinct ks) as (λ y. distinct ks ≡ y → (cond y (Ok (agg_columns a ks)) (Err NameTwice)) ≡ Ok c → IsAgg a ks c) [
            | true ↦ λ t e. record { keys = s; once = t; is = ap (typing_or c) e }
            | false ↦ λ t e. cc
          ] refl g
      | false ↦ λ s g. cc
    ] refl h

some_val : (vs : Vals) → is_none vs ≡ false → 0 < length vs
some_val vs h = ltb-true 0 (length vs) (not-false (nat_lt 0 (length vs)) h)

-- the columns of a join, a union and an agg of tables are a table's, where the other rules are met
pub join_are_columns : (a b : Columns) → are_columns a.keys a.vals ≡ true → are_columns b.keys b.vals ≡ true → is_none (common_vals a.vals b.vals) ≡ false → too_many (join_columns a b) ≡ false → are_columns (join_columns a b).keys (join_columns a b).vals ≡ true
join_are_columns a b p q s f = of_few (join_columns a b) f (some_val (common_vals a.vals b.vals) s) (distinct_join a b (distinct_names a.keys a.vals p) (distinct_names b.keys b.vals q))

longer : (vs ws : Vals) → 0 < length vs → 0 < length (vs ++ ws)
longer [] ws h = absurd (omega (arith, h))
longer (v ∷ vs) ws h = omega arith

pub union_are_columns : (a b : Columns) → are_columns a.keys a.vals ≡ true → are_columns b.keys b.vals ≡ true → types_differ a b ≡ false → too_many (union_columns a b) ≡ false → are_columns (union_columns a b).keys (union_columns a b).vals ≡ true
union_are_columns a b p q t f =
    of_few (union_columns a b) f (longer a.vals (filter (λ v. not (has_col a.vals v)) b.vals) (few_of a.keys a.vals p).vals_some) (distinct_union a b t (distinct_names a.keys a.vals p) (distinct_names b.keys b.vals q))

pub agg_are_columns : (a : Columns) (ks : List Name) → are_columns a.keys a.vals ≡ true → among (key_names a.keys) ks ≡ true → distinct ks ≡ true → are_columns (agg_columns a ks).keys (agg_columns a ks).vals ≡ true
agg_are_columns a ks p h d =
    let few = few_of a.keys a.vals p in
    let own : length (key_names (key_cols a.keys ks)) ≡ length ks = ap length (names_key_cols a.keys ks h) in
    let cols = length-map (key_cols a.keys ks) (λ (k : KeyCol). k.name) in
    let all = length-map a.keys (λ (k : KeyCol). k.name) in
    let most = at_most (key_names a.keys) ks (distinct_key_names a.keys a.vals p) d h in
    few_columns (key_cols a.keys ks) a.vals (omega (arith, own, cols, all, most, few.keys_few)) few.vals_some few.vals_few (distinct_agg a ks (distinct_names a.keys a.vals p) h d)
