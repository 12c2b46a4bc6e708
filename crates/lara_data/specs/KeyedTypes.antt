-- Laws of rows that are of the types.
use Rattle.std.specs.Prelude.{◌≡◌, true, false, cond, List, [], ◌∷◌, ◌++◌, take, ℕ, ◌<◌, length}
use Rattle.std.proofs.Common.{refl, sym, ap, ◌∙◌, arith, get_or, zero, suc}
use Rattle.std.proofs.lemmas.Bool.{and_parts, and_from}
use Rattle.std.specs.declared.cmp.Ordering.{Ordering}
use Rattle.lara_semiring.specs.Rows.{row_has, row_zero, row_plus, row_is_zero, row_plus_has, row_zero_has}
use Rattle.lara_data.specs.declared.entry.Keyed.{Keyed}
use Rattle.lara_data.specs.KeyedTables.{all_have, IsKeyOrder, Types, Row, same_key, before, total, IsTypedList}
use Rattle.lara_data.specs.KeyedLaws.{IsTable-total}
use Rattle.lara_data.specs.KeyedPuts.{put, keep, own, puts, total_puts}

keep_has : {K : Type 0} (ts : Types) (k : K) (r : Row) (t : List (Keyed K)) → row_has ts r ≡ true → all_have ts t ≡ true → all_have ts (keep ts k r t) ≡ true
unfolding keep all_have
keep_has ts k r t h g = elim (row_is_zero ts r) as (λ z. all_have ts (cond z t (record { key = k; row = r } ∷ t)) ≡ true) [ true ↦ g | false ↦ and_from _ _ h g ]

pub all_have_take : {K : Type 0} (ts : Types) (es : List (Keyed K)) (i : ℕ) → all_have ts es ≡ true → all_have ts (take i es) ≡ true
unfolding all_have
all_have_take ts es zero h = refl
all_have_take ts [] (suc i) h = refl
all_have_take ts (e ∷ es) (suc i) h = and_from _ _ (and_parts (row_has ts e.row) (all_have ts es) h).0 (all_have_take ts es i (and_parts (row_has ts e.row) (all_have ts es) h).1)

pub all_have_at : {K : Type 0} (ts : Types) (es : List (Keyed K)) (i : ℕ) (d : Keyed K) → all_have ts es ≡ true → i < length es → row_has ts (get_or es i d).row ≡ true
unfolding all_have
all_have_at ts [] i d h l = absurd (omega arith)
all_have_at ts (e ∷ es) zero d h l = (and_parts (row_has ts e.row) (all_have ts es) h).0
all_have_at ts (e ∷ es) (suc i) d h l = all_have_at ts es i d (and_parts (row_has ts e.row) (all_have ts es) h).1 (omega arith)

pub all_have_none : (K : Type 0) (ts : Types) → all_have {K = K} ts [] ≡ true
unfolding all_have
all_have_none K ts = refl

pub all_have_append : {K : Type 0} (ts : Types) (xs ys : List (Keyed K)) → all_have ts xs ≡ true → all_have ts ys ≡ true → all_have ts (xs ++ ys) ≡ true
unfolding all_have
all_have_append ts [] ys h g = g
all_have_append ts (x ∷ xs) ys h g = and_from _ _ (and_parts (row_has ts x.row) (all_have ts xs) h).0 (all_have_append ts xs ys (and_parts (row_has ts x.row) (all_have ts xs) h).1 g)

all_have_one : {K : Type 0} (ts : Types) (e : Keyed K) → row_has ts e.row ≡ true → all_have ts (e ∷ []) ≡ true
unfolding all_have
all_have_one ts e g = and_from _ _ g refl

pub all_have_push : {K : Type 0} (ts : Types) (es : List (Keyed K)) (e : Keyed K) → all_have ts es ≡ true → row_has ts e.row ≡ true → all_have ts (es ++ e ∷ []) ≡ true
all_have_push ts es e h g = all_have_append ts es (e ∷ []) h (all_have_one ts e g)

pub item_has : {K : Type 0} (ts : Types) (es : List (Keyed K)) (i : ℕ) (e : Keyed K) → all_have ts es ≡ true → i < length es → e ≡ get_or es i e → row_has ts e.row ≡ true
item_has {K} ts es i e a l is = ap (λ (x : Keyed K). row_has ts x.row) is ∙ all_have_at ts es i e a l

pub ruleset all_have_steps = (all_have_none, all_have_push)

module _ {K : Type 0} {R : K → K → Ordering} (ko : IsKeyOrder R) where
  put_has : (ts : Types) (e : Keyed K) (t : List (Keyed K)) → row_has ts e.row ≡ true → all_have ts t ≡ true → all_have ts (put R ts e t) ≡ true
  unfolding put all_have
  put_has ts e [] h g = keep_has ts e.key (own ts e) [] (row_plus_has ts (row_zero ts) e.row (row_zero_has ts) h) refl
  put_has ts e (f ∷ t) h g =
      elim (before R e.key f.key) as (λ b. all_have ts (cond b (keep ts e.key (own ts e) (f ∷ t)) (cond (same_key R e.key f.key) (keep ts f.key (row_plus ts e.row f.row) t) (f ∷ put R ts e t))) ≡ true) [
        | true ↦ keep_has ts e.key (own ts e) (f ∷ t) (row_plus_has ts (row_zero ts) e.row (row_zero_has ts) h) g
        | false ↦ elim (same_key R e.key f.key) as (λ b. all_have ts (cond b (keep ts f.key (row_plus ts e.row f.row) t) (f ∷ put R ts e t)) ≡ true) [
          | true ↦ keep_has ts f.key (row_plus ts e.row f.row) t (row_plus_has ts e.row f.row h (and_parts (row_has ts f.row) (all_have ts t) g).0) (and_parts (row_has ts f.row) (all_have ts t) g).1
          | false ↦ and_from _ _ (and_parts (row_has ts f.row) (all_have ts t) g).0 (put_has ts e t h (and_parts (row_has ts f.row) (all_have ts t) g).1)
        ]
      ]

  puts_has : (ts : Types) (es : List (Keyed K)) → all_have ts es ≡ true → all_have ts (puts R ts es) ≡ true
  unfolding puts all_have
  puts_has ts [] h = refl
  puts_has ts (e ∷ es) h = put_has ts e (puts R ts es) (and_parts (row_has ts e.row) (all_have ts es) h).0 (puts_has ts es (and_parts (row_has ts e.row) (all_have ts es) h).1)

  -- the rows of a total are of the types
  pub total_has : (ts : Types) (es : List (Keyed K)) → all_have ts es ≡ true → all_have ts (total R ts es) ≡ true
  total_has ts es h = ap (all_have ts) (sym (total_puts ko ts es)) ∙ puts_has ts es h

pub IsTypedList-total : {K : Type 0} {R : K → K → Ordering} (ko : IsKeyOrder R) (ts : Types) (es : List (Keyed K)) → all_have ts es ≡ true → IsTypedList R ts (total R ts es)
IsTypedList-total ko ts es h = record { table = IsTable-total ko ts es; has = total_has ko ts es h }
