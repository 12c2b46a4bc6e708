-- Laws of `at` and `total`, over any order of keys.
use Rattle.std.specs.Prelude.{◌≡◌, Bool, true, false, cond, ◌&&◌, ◌||◌, List, [], ◌∷◌, ◌++◌}
use Rattle.std.proofs.Common.{refl, sym, ap, ◌∙◌, subst, append_assoc}
use Rattle.std.proofs.lemmas.Bool.{and_parts, and_from, or_parts}
use Rattle.std.specs.declared.cmp.Ordering.{Ordering}
use Rattle.lara_semiring.specs.Rows.{row_zero, row_plus, row_is_zero, row_plus_assoc, row_plus_comm, row_zero_plus_plus, row_zero_twice, row_zero_is_zero, row_zero_from_is_zero}
use Rattle.lara_data.specs.declared.entry.Keyed.{Keyed}
use Rattle.lara_data.specs.KeyedTables.{IsKeyOrder, Types, Row, same_key, before, at, SameAt, is_below, rises, IsKept, AllKept, IsTable, key_put, key_set, at_keys, total}
use Rattle.lara_data.specs.KeyedOrderLaws.{same_key_itself, same_key_is, before_trans, before_apart, after_by}

or_turned : (a b c : Bool) → (a || (b || c)) ≡ (b || (a || c))
or_turned true true c = refl
or_turned true false c = refl
or_turned false b c = refl

or_same : (a b : Bool) → (a || b) ≡ (a || (a || b))
or_same true b = refl
or_same false b = refl

not_zero : (ts : Types) (row : Row) → row_is_zero ts row ≡ false → row ≡ row_zero ts → ⊥
not_zero ts row h e = let f : row_is_zero ts row ≡ true = ap (row_is_zero ts) e ∙ row_zero_is_zero ts in cc

module _ {K : Type 0} (R : K → K → Ordering) where
  abbrev is_before_keys : K → List K → Bool
  is_before_keys k [] = true
  is_before_keys k (x ∷ xs) = before R k x && is_before_keys k xs

  abbrev keys_rise : List K → Bool
  keys_rise [] = true
  keys_rise (x ∷ xs) = is_before_keys x xs && keys_rise xs

  abbrev has_key : K → List K → Bool
  has_key q [] = false
  has_key q (x ∷ xs) = same_key R q x || has_key q xs

module _ {K : Type 0} {R : K → K → Ordering} (ko : IsKeyOrder R) where
  -- ---- rows at a key

  -- what a list has at a key is its own sum
  pub at_whole : (ts : Types) (es : List (Keyed K)) (k : K) → row_plus ts (row_zero ts) (at R ts es k) ≡ at R ts es k
  unfolding at
  at_whole ts [] k = row_zero_twice ts
  at_whole ts (e ∷ es) k =
      elim (same_key R k e.key) as (λ b. row_plus ts (row_zero ts) (cond b (row_plus ts e.row (at R ts es k)) (at R ts es k)) ≡ cond b (row_plus ts e.row (at R ts es k)) (at R ts es k)) [
        | true ↦ row_zero_plus_plus ts e.row (at R ts es k)
        | false ↦ at_whole ts es k
      ]

  pub at_none : (ts : Types) (k : K) → at R ts [] k ≡ row_zero ts
  unfolding at
  at_none ts k = refl

  pub at_cons : (ts : Types) (e : Keyed K) (es : List (Keyed K)) (k : K) → at R ts (e ∷ es) k ≡ cond (same_key R k e.key) (row_plus ts e.row (at R ts es k)) (at R ts es k)
  unfolding at
  at_cons ts e es k = refl

  -- the rows of joined lists are summed
  pub at_append : (ts : Types) (xs ys : List (Keyed K)) (k : K) → at R ts (xs ++ ys) k ≡ row_plus ts (at R ts xs k) (at R ts ys k)
  unfolding at
  at_append ts [] ys k = sym (at_whole ts ys k)
  at_append ts (x ∷ xs) ys k =
      let rest = at_append ts xs ys k in
      elim (same_key R k x.key) as (λ b. cond b (row_plus ts x.row (at R ts (xs ++ ys) k)) (at R ts (xs ++ ys) k) ≡ row_plus ts (cond b (row_plus ts x.row (at R ts xs k)) (at R ts xs k)) (at R ts ys k)) [
        | true ↦ ap (row_plus ts x.row) rest ∙ sym (row_plus_assoc ts x.row (at R ts xs k) (at R ts ys k))
        | false ↦ rest
      ]

  pub plus_zero_right : (ts : Types) (es : List (Keyed K)) (k : K) → row_plus ts (at R ts es k) (row_zero ts) ≡ at R ts es k
  plus_zero_right ts es k = row_plus_comm ts (at R ts es k) (row_zero ts) ∙ at_whole ts es k

  -- ---- lists with the same rows

  pub SameAt-refl : (ts : Types) (xs : List (Keyed K)) → SameAt R ts xs xs
  SameAt-refl ts xs = record { same = λ k. refl }

  pub SameAt-by : (ts : Types) {xs ys : List (Keyed K)} → xs ≡ ys → SameAt R ts xs ys
  SameAt-by ts e = record { same = λ k. ap (λ es. at R ts es k) e }

  pub SameAt-sym : {ts : Types} {xs ys : List (Keyed K)} → SameAt R ts xs ys → SameAt R ts ys xs
  SameAt-sym h = record { same = λ k. sym (h.same k) }

  pub SameAt-trans : {ts : Types} {xs ys zs : List (Keyed K)} → SameAt R ts xs ys → SameAt R ts ys zs → SameAt R ts xs zs
  SameAt-trans h g = record { same = λ k. h.same k ∙ g.same k }

  pub SameAt-append : {ts : Types} {xs xs' ys ys' : List (Keyed K)} → SameAt R ts xs xs' → SameAt R ts ys ys' → SameAt R ts (xs ++ ys) (xs' ++ ys')
  SameAt-append {ts} {xs} {xs'} {ys} {ys'} h g = record {
    same = λ k. at_append ts xs ys k ∙ ap (λ r. row_plus ts r (at R ts ys k)) (h.same k) ∙ ap (row_plus ts (at R ts xs' k)) (g.same k) ∙ sym (at_append ts xs' ys' k);
  }

  pub SameAt-swap : (ts : Types) (xs ys : List (Keyed K)) → SameAt R ts (xs ++ ys) (ys ++ xs)
  SameAt-swap ts xs ys = record { same = λ k. at_append ts xs ys k ∙ row_plus_comm ts (at R ts xs k) (at R ts ys k) ∙ sym (at_append ts ys xs k) }

  pub SameAt-cons : (ts : Types) (e : Keyed K) {xs ys : List (Keyed K)} → SameAt R ts xs ys → SameAt R ts (e ∷ xs) (e ∷ ys)
  SameAt-cons ts e {xs} {ys} h = SameAt-append (SameAt-refl ts (e ∷ [])) h

  pub two_turned : (ts : Types) (e f : Keyed K) (xs : List (Keyed K)) → SameAt R ts (e ∷ f ∷ xs) (f ∷ e ∷ xs)
  two_turned ts e f xs = SameAt-append (SameAt-swap ts (e ∷ []) (f ∷ [])) (SameAt-refl ts xs)

  pub three_turned : (ts : Types) (xs ys zs : List (Keyed K)) → SameAt R ts (xs ++ (ys ++ zs)) (ys ++ (xs ++ zs))
  three_turned ts xs ys zs =
      subst (λ (x : List (Keyed K)). SameAt R ts x (ys ++ (xs ++ zs))) (append_assoc xs ys zs)
      (subst (SameAt R ts ((xs ++ ys) ++ zs)) (append_assoc ys xs zs) (SameAt-append (SameAt-swap ts xs ys) (SameAt-refl ts zs)))

  -- ---- the keys of a list

  -- a key before another is before all that the other is before
  before_keys_trans : (a b : K) (ks : List K) → before R a b ≡ true → is_before_keys R b ks ≡ true → is_before_keys R a ks ≡ true
  before_keys_trans a b [] p q = refl
  before_keys_trans a b (x ∷ xs) p q = and_from _ _ (before_trans ko a b x p (and_parts (before R b x) (is_before_keys R b xs) q).0) (before_keys_trans a b xs p (and_parts (before R b x) (is_before_keys R b xs) q).1)

  before_keys_put : (a k : K) (ks : List K) → before R a k ≡ true → is_before_keys R a ks ≡ true → is_before_keys R a (key_put R k ks) ≡ true
  unfolding key_put
  before_keys_put a k [] p q = and_from _ _ p refl
  before_keys_put a k (x ∷ xs) p q =
      elim (before R k x) as (λ b. is_before_keys R a (cond b (k ∷ x ∷ xs) (cond (same_key R k x) (x ∷ xs) (x ∷ key_put R k xs))) ≡ true) [
        | true ↦ and_from _ _ p q
        | false ↦ elim (same_key R k x) as (λ b. is_before_keys R a (cond b (x ∷ xs) (x ∷ key_put R k xs)) ≡ true) [
          | true ↦ q
          | false ↦ and_from _ _ (and_parts (before R a x) (is_before_keys R a xs) q).0 (before_keys_put a k xs p (and_parts (before R a x) (is_before_keys R a xs) q).1)
        ]
      ]

  keys_rise_put : (k : K) (ks : List K) → keys_rise R ks ≡ true → keys_rise R (key_put R k ks) ≡ true
  unfolding key_put
  keys_rise_put k [] h = refl
  keys_rise_put k (x ∷ xs) h =
      elim (before R k x) as (λ b. before R k x ≡ b → keys_rise R (cond b (k ∷ x ∷ xs) (cond (same_key R k x) (x ∷ xs) (x ∷ key_put R k xs))) ≡ true) [
        | true ↦ λ e. and_from _ _ (and_from _ _ e (before_keys_trans k x xs e (and_parts (is_before_keys R x xs) (keys_rise R xs) h).0)) h
        | false ↦ λ e. elim (same_key R k x) as (λ b. same_key R k x ≡ b → keys_rise R (cond b (x ∷ xs) (x ∷ key_put R k xs)) ≡ true) [
          | true ↦ λ f. h
          | false ↦ λ f. and_from _ _ (before_keys_put x k xs (after_by ko k x e f) (and_parts (is_before_keys R x xs) (keys_rise R xs) h).0) (keys_rise_put k xs (and_parts (is_before_keys R x xs) (keys_rise R xs) h).1)
        ] refl
      ] refl

  key_set_rises : (es : List (Keyed K)) → keys_rise R (key_set R es) ≡ true
  unfolding key_set
  key_set_rises [] = refl
  key_set_rises (e ∷ es) = keys_rise_put e.key (key_set R es) (key_set_rises es)

  has_key_put : (q k : K) (ks : List K) → has_key R q (key_put R k ks) ≡ (same_key R q k || has_key R q ks)
  unfolding key_put
  has_key_put q k [] = refl
  has_key_put q k (x ∷ xs) =
      elim (before R k x) as (λ b. has_key R q (cond b (k ∷ x ∷ xs) (cond (same_key R k x) (x ∷ xs) (x ∷ key_put R k xs))) ≡ (same_key R q k || (same_key R q x || has_key R q xs))) [
        | true ↦ refl
        | false ↦ elim (same_key R k x) as (λ b. same_key R k x ≡ b → has_key R q (cond b (x ∷ xs) (x ∷ key_put R k xs)) ≡ (same_key R q k || (same_key R q x || has_key R q xs))) [
          | true ↦ λ e. subst (λ y. (same_key R q x || has_key R q xs) ≡ (same_key R q y || (same_key R q x || has_key R q xs))) (sym (same_key_is ko k x e)) (or_same (same_key R q x) (has_key R q xs))
          | false ↦ λ e. ap (λ b. same_key R q x || b) (has_key_put q k xs) ∙ or_turned (same_key R q x) (same_key R q k) (has_key R q xs)
        ] refl
      ]

  -- a list has the default row at a key that it does not list
  at_absent : (ts : Types) (es : List (Keyed K)) (q : K) → has_key R q (key_set R es) ≡ false → at R ts es q ≡ row_zero ts
  unfolding at key_set
  at_absent ts [] q h = refl
  at_absent ts (e ∷ es) q h =
      let h' : (same_key R q e.key || has_key R q (key_set R es)) ≡ false = sym (has_key_put q e.key (key_set R es)) ∙ h in
      rw (or_parts (same_key R q e.key) (has_key R q (key_set R es)) h').0 (at_absent ts es q (or_parts (same_key R q e.key) (has_key R q (key_set R es)) h').1)

  -- a key before other keys is none of them
  before_keys_absent : (q : K) (ks : List K) → is_before_keys R q ks ≡ true → has_key R q ks ≡ false
  before_keys_absent q [] h = refl
  before_keys_absent q (x ∷ xs) h = rw (before_apart ko q x (and_parts (before R q x) (is_before_keys R q xs) h).0) (before_keys_absent q xs (and_parts (before R q x) (is_before_keys R q xs) h).1)

  -- what `at_keys` has at a key
  at_at_keys : (ts : Types) (es : List (Keyed K)) (ks : List K) (q : K) → keys_rise R ks ≡ true → at R ts (at_keys R ts es ks) q ≡ cond (has_key R q ks) (at R ts es q) (row_zero ts)
  unfolding at at_keys
  at_at_keys ts es [] q h = refl
  at_at_keys ts es (k ∷ ks) q h =
      let rest = at_at_keys ts es ks q (and_parts (is_before_keys R k ks) (keys_rise R ks) h).1 in
      elim (same_key R q k) as (λ s. same_key R q k ≡ s → at R ts (cond (row_is_zero ts (at R ts es k)) (at_keys R ts es ks) (record { key = k; row = at R ts es k } ∷ at_keys R ts es ks)) q ≡ cond (s || has_key R q ks) (at R ts es q) (row_zero ts)) [
        | true ↦ λ e.
            let is : q ≡ k = same_key_is ko q k e in
            let none : has_key R q ks ≡ false = subst (λ y. has_key R y ks ≡ false) (sym is) (before_keys_absent k ks (and_parts (is_before_keys R k ks) (keys_rise R ks) h).0) in
            let rest_zero : at R ts (at_keys R ts es ks) q ≡ row_zero ts = rest ∙ ap (λ b. cond b (at R ts es q) (row_zero ts)) none in
            elim (row_is_zero ts (at R ts es k)) as (λ z. row_is_zero ts (at R ts es k) ≡ z → at R ts (cond z (at_keys R ts es ks) (record { key = k; row = at R ts es k } ∷ at_keys R ts es ks)) q ≡ at R ts es q) [
              | true ↦ λ z. rest_zero ∙ sym (row_zero_from_is_zero ts (at R ts es k) z) ∙ at_whole ts es k ∙ ap (at R ts es) (sym is)
              | false ↦ λ z. rw (e, rest_zero) (plus_zero_right ts es k ∙ ap (at R ts es) (sym is))
            ] refl
        | false ↦ λ e. elim (row_is_zero ts (at R ts es k)) as (λ z. at R ts (cond z (at_keys R ts es ks) (record { key = k; row = at R ts es k } ∷ at_keys R ts es ks)) q ≡ cond (has_key R q ks) (at R ts es q) (row_zero ts)) [
          | true ↦ rest
          | false ↦ rw e rest
        ]
      ] refl

  -- the total has at each key what the list has
  pub at_total : (ts : Types) (es : List (Keyed K)) (q : K) → at R ts (total R ts es) q ≡ at R ts es q
  unfolding total
  at_total ts es q =
      at_at_keys ts es (key_set R es) q (key_set_rises es)
      ∙ elim (has_key R q (key_set R es)) as (λ b. has_key R q (key_set R es) ≡ b → cond b (at R ts es q) (row_zero ts) ≡ at R ts es q) [
        | true ↦ λ e. refl
        | false ↦ λ e. sym (at_absent ts es q e)
      ] refl

  pub SameAt-total : (ts : Types) (es : List (Keyed K)) → SameAt R ts (total R ts es) es
  SameAt-total ts es = record { same = at_total ts es }

  -- ---- the total is a table

  below_at_keys : (ts : Types) (es : List (Keyed K)) (q : K) (ks : List K) → is_before_keys R q ks ≡ true → is_below R q (at_keys R ts es ks) ≡ true
  unfolding at_keys is_below
  below_at_keys ts es q [] h = refl
  below_at_keys ts es q (k ∷ ks) h =
      let rest = below_at_keys ts es q ks (and_parts (before R q k) (is_before_keys R q ks) h).1 in
      elim (row_is_zero ts (at R ts es k)) as (λ z. is_below R q (cond z (at_keys R ts es ks) (record { key = k; row = at R ts es k } ∷ at_keys R ts es ks)) ≡ true) [
        | true ↦ rest
        | false ↦ and_from _ _ (and_parts (before R q k) (is_before_keys R q ks) h).0 rest
      ]

  rises_at_keys : (ts : Types) (es : List (Keyed K)) (ks : List K) → keys_rise R ks ≡ true → rises R (at_keys R ts es ks) ≡ true
  unfolding at_keys rises
  rises_at_keys ts es [] h = refl
  rises_at_keys ts es (k ∷ ks) h =
      let rest = rises_at_keys ts es ks (and_parts (is_before_keys R k ks) (keys_rise R ks) h).1 in
      elim (row_is_zero ts (at R ts es k)) as (λ z. rises R (cond z (at_keys R ts es ks) (record { key = k; row = at R ts es k } ∷ at_keys R ts es ks)) ≡ true) [
        | true ↦ rest
        | false ↦ and_from _ _ (below_at_keys ts es k ks (and_parts (is_before_keys R k ks) (keys_rise R ks) h).0) rest
      ]

  kept_at_keys : (ts : Types) (es : List (Keyed K)) (ks : List K) → AllKept ts (at_keys R ts es ks)
  unfolding at_keys AllKept
  kept_at_keys ts es [] = tt
  kept_at_keys ts es (k ∷ ks) =
      elim (row_is_zero ts (at R ts es k)) as (λ z. row_is_zero ts (at R ts es k) ≡ z → AllKept ts (cond z (at_keys R ts es ks) (record { key = k; row = at R ts es k } ∷ at_keys R ts es ks))) [
        | true ↦ λ e. kept_at_keys ts es ks
        | false ↦ λ e. (record { not_default = e; within = at_whole ts es k }, kept_at_keys ts es ks)
      ] refl

  pub IsTable-total : (ts : Types) (es : List (Keyed K)) → IsTable R ts (total R ts es)
  unfolding total
  IsTable-total ts es = record { rising = rises_at_keys ts es (key_set R es) (key_set_rises es); kept = kept_at_keys ts es (key_set R es) }

  -- ---- a table is what it has at each key

  -- a list has the default row at a key that is before all of its keys
  pub at_below : (ts : Types) (k : K) (es : List (Keyed K)) → is_below R k es ≡ true → at R ts es k ≡ row_zero ts
  unfolding at is_below
  at_below ts k [] h = refl
  at_below ts k (e ∷ es) h = rw (before_apart ko k e.key (and_parts (before R k e.key) (is_below R k es) h).0) (at_below ts k es (and_parts (before R k e.key) (is_below R k es) h).1)

  pub is_below_trans : (a b : K) (es : List (Keyed K)) → before R a b ≡ true → is_below R b es ≡ true → is_below R a es ≡ true
  unfolding is_below
  is_below_trans a b [] p q = refl
  is_below_trans a b (e ∷ es) p q = and_from _ _ (before_trans ko a b e.key p (and_parts (before R b e.key) (is_below R b es) q).0) (is_below_trans a b es p (and_parts (before R b e.key) (is_below R b es) q).1)

  pub first_rising : (e : Keyed K) (es : List (Keyed K)) → rises R (e ∷ es) ≡ true → is_below R e.key es ≡ true
  unfolding rises
  first_rising e es h = (and_parts (is_below R e.key es) (rises R es) h).0

  pub rest_rising : (e : Keyed K) (es : List (Keyed K)) → rises R (e ∷ es) ≡ true → rises R es ≡ true
  unfolding rises
  rest_rising e es h = (and_parts (is_below R e.key es) (rises R es) h).1

  pub first_kept : (ts : Types) (e : Keyed K) (es : List (Keyed K)) → AllKept ts (e ∷ es) → IsKept ts e.row
  unfolding AllKept
  first_kept ts e es h = h.0

  pub rest_kept : (ts : Types) (e : Keyed K) (es : List (Keyed K)) → AllKept ts (e ∷ es) → AllKept ts es
  unfolding AllKept
  rest_kept ts e es h = h.1

  -- the row at the first key of a table
  pub at_first : (ts : Types) (e : Keyed K) (es : List (Keyed K)) → IsTable R ts (e ∷ es) → at R ts (e ∷ es) e.key ≡ e.row
  at_first ts e es h =
      at_cons ts e es e.key
      ∙ ap (λ b. cond b (row_plus ts e.row (at R ts es e.key)) (at R ts es e.key)) (same_key_itself ko e.key)
      ∙ ap (row_plus ts e.row) (at_below ts e.key es (first_rising e es h.rising))
      ∙ row_plus_comm ts e.row (row_zero ts) ∙ (first_kept ts e es h.kept).within

  pub table_rest : (ts : Types) (e : Keyed K) (es : List (Keyed K)) → IsTable R ts (e ∷ es) → IsTable R ts es
  table_rest ts e es h = record { rising = rest_rising e es h.rising; kept = rest_kept ts e es h.kept }

  -- a key before all of a table's keys has no row there
  absent_before : (ts : Types) (q : K) (e : Keyed K) (es : List (Keyed K)) → IsTable R ts (e ∷ es) → before R q e.key ≡ true → at R ts (e ∷ es) q ≡ row_zero ts
  unfolding is_below
  absent_before ts q e es h p = at_below ts q (e ∷ es) (and_from _ _ p (is_below_trans q e.key es p (first_rising e es h.rising)))

  -- the row at another key than the first
  pub rest_at : (ts : Types) (e : Keyed K) (es : List (Keyed K)) (q : K) → same_key R q e.key ≡ false → at R ts (e ∷ es) q ≡ at R ts es q
  rest_at ts e es q n = at_cons ts e es q ∙ ap (λ b. cond b (row_plus ts e.row (at R ts es q)) (at R ts es q)) n

  pub table_unique : (ts : Types) (s t : List (Keyed K)) → IsTable R ts s → IsTable R ts t → SameAt R ts s t → s ≡ t
  table_unique ts [] [] p q h = refl
  table_unique ts [] (f ∷ t) p q h = absurd (not_zero ts f.row (first_kept ts f t q.kept).not_default (sym (at_first ts f t q) ∙ sym (h.same f.key) ∙ at_none ts f.key))
  table_unique ts (e ∷ s) [] p q h = absurd (not_zero ts e.row (first_kept ts e s p.kept).not_default (sym (at_first ts e s p) ∙ h.same e.key ∙ at_none ts e.key))
  table_unique ts (e ∷ s) (f ∷ t) p q h =
      elim (before R e.key f.key) as (λ b. before R e.key f.key ≡ b → e ∷ s ≡ f ∷ t) [
        | true ↦ λ l. absurd (not_zero ts e.row (first_kept ts e s p.kept).not_default (sym (at_first ts e s p) ∙ h.same e.key ∙ absent_before ts e.key f t q l))
        | false ↦ λ l. elim (same_key R e.key f.key) as (λ b. same_key R e.key f.key ≡ b → e ∷ s ≡ f ∷ t) [
          | true ↦ λ k.
              let is : e.key ≡ f.key = same_key_is ko e.key f.key k in
              let rows : e.row ≡ f.row = sym (at_first ts e s p) ∙ h.same e.key ∙ ap (at R ts (f ∷ t)) is ∙ at_first ts f t q in
              let firsts : e ≡ f = λ i. record { key = is i; row = rows i } in
              let rests : SameAt R ts s t = record { same = λ x. same_rests x is } in
              λ i. firsts i ∷ table_unique ts s t (table_rest ts e s p) (table_rest ts f t q) rests i
          | false ↦ λ k. absurd (not_zero ts f.row (first_kept ts f t q.kept).not_default (sym (at_first ts f t q) ∙ sym (h.same f.key) ∙ absent_before ts f.key e s p (after_by ko e.key f.key l k)))
        ] refl
      ] refl
    where
      same_rests : (x : K) → e.key ≡ f.key → at R ts s x ≡ at R ts t x
      same_rests x is =
          elim (same_key R x e.key) as (λ b. same_key R x e.key ≡ b → at R ts s x ≡ at R ts t x) [
            | true ↦ λ k.
                let x_is : x ≡ e.key = same_key_is ko x e.key k in
                ap (at R ts s) x_is ∙ at_below ts e.key s (first_rising e s p.rising) ∙ sym (at_below ts f.key t (first_rising f t q.rising)) ∙ ap (at R ts t) (sym (x_is ∙ is))
            | false ↦ λ k. sym (rest_at ts e s x k) ∙ h.same x ∙ rest_at ts f t x (ap (same_key R x) (sym is) ∙ k)
          ] refl
