-- Lists of distinct names.
use Rattle.std.specs.Prelude.{◌≡◌, ◌≤◌, ◌+◌, Bool, true, false, cond, ◌&&◌, ◌||◌, not, List, [], ◌∷◌, ◌++◌, filter, length}
use Rattle.std.proofs.Common.{refl, sym, ap, ◌∙◌, subst, arith, suc}
use Rattle.std.proofs.lemmas.Bool.{and_from, and_parts, or_parts}
use Rattle.std.proofs.Math.Bool.{and-false}
use Rattle.std.proofs.lemmas.List.Sums.{length-filter, count_by-le-length}
use Rattle.lara_data.specs.Names.{Name, same_name, same_name_is, same_name_itself, has, has_head, has_tail, has_append, has_among, among, among_by, distinct, others, other_name, not_true}
use Rattle.lara_data.specs.Sequences.{SameNames, has_filter}

-- ---- distinct columns

pub distinct_filter : (p : Name → Bool) (ns : List Name) → distinct ns ≡ true → distinct (filter p ns) ≡ true
unfolding distinct
distinct_filter p [] d = refl
distinct_filter p (n ∷ ns) d =
    let f = not_true (has ns n) (and_parts (not (has ns n)) (distinct ns) d).0 in
    let rest = distinct_filter p ns (and_parts (not (has ns n)) (distinct ns) d).1 in
    let out : has (filter p ns) n ≡ false = has_filter p ns n ∙ ap (λ b. b && p n) f in
    elim (p n) as (λ b. distinct (cond b (n ∷ filter p ns) (filter p ns)) ≡ true) [ true ↦ and_from _ _ (ap not out) rest | false ↦ rest ]

pub distinct_append : (ns ms : List Name) → distinct ns ≡ true → distinct ms ≡ true → ((n : Name) → has ns n ≡ true → has ms n ≡ false) → distinct (ns ++ ms) ≡ true
unfolding distinct
distinct_append [] ms d e h = e
distinct_append (n ∷ ns) ms d e h =
    let f = not_true (has ns n) (and_parts (not (has ns n)) (distinct ns) d).0 in
    let out : has (ns ++ ms) n ≡ false = has_append ns ms n ∙ (λ i. f i || h n (has_head n ns) i) in
    and_from _ _ (ap not out) (distinct_append ns ms (and_parts (not (has ns n)) (distinct ns) d).1 e (λ m k. h m (has_tail m n ns k)))

-- of distinct names, those in front are distinct, those behind too, and no name stands in front and behind
pub distinct_left : (ns ms : List Name) → distinct (ns ++ ms) ≡ true → distinct ns ≡ true
unfolding distinct
distinct_left [] ms d = refl
distinct_left (n ∷ ns) ms d =
    let parts = and_parts (not (has (ns ++ ms) n)) (distinct (ns ++ ms)) d in
    let f = or_parts (has ns n) (has ms n) (sym (has_append ns ms n) ∙ not_true (has (ns ++ ms) n) parts.0) in
    and_from (not (has ns n)) (distinct ns) (ap not f.0) (distinct_left ns ms parts.1)

pub distinct_right : (ns ms : List Name) → distinct (ns ++ ms) ≡ true → distinct ms ≡ true
unfolding distinct
distinct_right [] ms d = d
distinct_right (n ∷ ns) ms d = distinct_right ns ms (and_parts (not (has (ns ++ ms) n)) (distinct (ns ++ ms)) d).1

pub distinct_apart : (ns ms : List Name) (n : Name) → distinct (ns ++ ms) ≡ true → has ns n ≡ true → has ms n ≡ false
unfolding distinct has
distinct_apart [] ms n d h = cc
distinct_apart (m ∷ ns) ms n d h =
    let parts = and_parts (not (has (ns ++ ms) m)) (distinct (ns ++ ms)) d in
    let f = or_parts (has ns m) (has ms m) (sym (has_append ns ms m) ∙ not_true (has (ns ++ ms) m) parts.0) in
    elim (same_name n m) as (λ b. same_name n m ≡ b → (b || has ns n) ≡ true → has ms n ≡ false) [
      | true ↦ λ s e. ap (has ms) (same_name_is n m s) ∙ f.1
      | false ↦ λ s e. distinct_apart ns ms n parts.1 e
    ] refl h

-- distinct names, and behind them those of other distinct names that are not among them, are distinct
pub distinct_others : (ns ms : List Name) → distinct ns ≡ true → distinct ms ≡ true → distinct (ns ++ others ns ms) ≡ true
unfolding others
distinct_others ns ms d e =
    distinct_append ns (filter (λ n. not (has ns n)) ms) d (distinct_filter (λ n. not (has ns n)) ms e)
    (λ n h. has_filter (λ m. not (has ns m)) ms n ∙ ap (λ b. has ms n && not b) h ∙ and-false (has ms n))

-- ---- as many columns

without : Name → List Name → List Name
without n ms = filter (λ m. not (same_name m n)) ms

pub filter_shorter : (p : Name → Bool) (ms : List Name) → length (filter p ms) ≤ length ms
filter_shorter p ms = omega (arith, length-filter p ms, count_by-le-length p ms)

without_shorter : (n : Name) (ms : List Name) → has ms n ≡ true → length (without n ms) + 1 ≤ length ms
unfolding without has
without_shorter n [] h = cc
without_shorter n (m ∷ ms) h =
    elim (same_name n m) as (λ b. same_name n m ≡ b → (b || has ms n) ≡ true → length (cond (not (same_name m n)) (m ∷ filter (λ k. not (same_name k n)) ms) (filter (λ k. not (same_name k n)) ms)) + 1 ≤ suc (length ms)) [
      | true ↦ λ s k.
          let e : same_name m n ≡ true = ap (λ x. same_name x n) (sym (same_name_is n m s)) ∙ same_name_itself n in
          let q = filter_shorter (λ k. not (same_name k n)) ms in
          subst (λ (b : Bool). length (cond (not b) (m ∷ filter (λ k. not (same_name k n)) ms) (filter (λ k. not (same_name k n)) ms)) + 1 ≤ suc (length ms)) (sym e) (omega (arith, q))
      | false ↦ λ s k.
          let q = without_shorter n ms k in
          elim (same_name m n) as (λ b. length (cond (not b) (m ∷ filter (λ k. not (same_name k n)) ms) (filter (λ k. not (same_name k n)) ms)) + 1 ≤ suc (length ms)) [ true ↦ omega (arith, q) | false ↦ omega (arith, q) ]
    ] refl h

has_without : (n m : Name) (ms : List Name) → has ms m ≡ true → same_name m n ≡ false → has (without n ms) m ≡ true
unfolding without
has_without n m ms h s = has_filter (λ k. not (same_name k n)) ms m ∙ (λ i. h i && not (s i))

at_least : (ns ms : List Name) → distinct ns ≡ true → among ms ns ≡ true → length ns ≤ length ms
unfolding distinct among
at_least [] ms d h = omega arith
at_least (n ∷ ns) ms d h =
    let f = not_true (has ns n) (and_parts (not (has ns n)) (distinct ns) d).0 in
    let a = (and_parts (has ms n) (among ms ns) h).0 in
    let b = (and_parts (has ms n) (among ms ns) h).1 in
    let sub : among (without n ms) ns ≡ true = among_by (without n ms) ns (λ m k. has_without n m ms (has_among ms ns m b k) (other_name n m ns f k)) in
    let one = at_least ns (without n ms) (and_parts (not (has ns n)) (distinct ns) d).1 sub in
    let two = without_shorter n ms a in
    omega (arith, one, two)

-- distinct columns that are the same as a set are as many
pub same_length : (ns ms : List Name) → distinct ns ≡ true → distinct ms ≡ true → SameNames ns ms → length ns ≡ length ms
same_length ns ms d e s =
    let one = at_least ns ms d s.from in
    let two = at_least ms ns e s.to in
    omega (arith, one, two)
