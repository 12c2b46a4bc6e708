-- A table built entry by entry, over any order of keys.
use Rattle.std.specs.Prelude.{◌≡◌, true, false, cond, ◌&&◌, List, [], ◌∷◌}
use Rattle.std.proofs.Common.{refl, sym, ap, ◌∙◌}
use Rattle.std.proofs.lemmas.Bool.{and_parts, and_from}
use Rattle.std.specs.declared.cmp.Ordering.{Ordering}
use Rattle.lara_semiring.specs.Rows.{row_zero, row_plus, row_is_zero, row_plus_assoc, row_zero_plus_plus, row_zero_from_is_zero}
use Rattle.lara_data.specs.declared.entry.Keyed.{Keyed}
use Rattle.lara_data.specs.KeyedTables.{IsKeyOrder, Types, Row, same_key, before, at, SameAt, is_below, rises, AllKept, IsTable, total}
use Rattle.lara_data.specs.KeyedOrderLaws.{same_key_is, after_by}
use Rattle.lara_data.specs.KeyedLaws.{at_whole, SameAt-refl, SameAt-trans, SameAt-cons, SameAt-total, two_turned, IsTable-total, is_below_trans}
use Rattle.lara_data.specs.KeyedTotals.{total_by}

-- an entry's row as a sum
abbrev pub own : {K : Type 0} → Types → Keyed K → Row
own ts e = row_plus ts (row_zero ts) e.row

-- an entry in front, unless its row is default
unfoldable pub keep : {K : Type 0} → Types → K → Row → List (Keyed K) → List (Keyed K)
keep ts k r t = cond (row_is_zero ts r) t (record { key = k; row = r } ∷ t)

module _ {K : Type 0} (R : K → K → Ordering) where
  -- the table with one more entry summed in
  unfoldable pub put : Types → Keyed K → List (Keyed K) → List (Keyed K)
  put ts e [] = keep ts e.key (own ts e) []
  put ts e (f ∷ t) = cond (before R e.key f.key) (keep ts e.key (own ts e) (f ∷ t)) (cond (same_key R e.key f.key) (keep ts f.key (row_plus ts e.row f.row) t) (f ∷ put ts e t))

  -- the table of a list, entry by entry from the end
  unfoldable pub puts : Types → List (Keyed K) → List (Keyed K)
  puts ts [] = []
  puts ts (e ∷ es) = put ts e (puts ts es)

kept_keep : {K : Type 0} (ts : Types) (k : K) (r : Row) (t : List (Keyed K)) → row_plus ts (row_zero ts) r ≡ r → AllKept ts t → AllKept ts (keep ts k r t)
unfolding keep AllKept
kept_keep ts k r t w h =
    elim (row_is_zero ts r) as (λ z. row_is_zero ts r ≡ z → AllKept ts (cond z t (record { key = k; row = r } ∷ t))) [
      | true ↦ λ e. h
      | false ↦ λ e. (record { not_default = e; within = w }, h)
    ] refl

module _ {K : Type 0} {R : K → K → Ordering} (ko : IsKeyOrder R) where
  below_keep : (ts : Types) (a k : K) (r : Row) (t : List (Keyed K)) → before R a k ≡ true → is_below R a t ≡ true → is_below R a (keep ts k r t) ≡ true
  unfolding keep is_below
  below_keep ts a k r t p q = elim (row_is_zero ts r) as (λ z. is_below R a (cond z t (record { key = k; row = r } ∷ t)) ≡ true) [ true ↦ q | false ↦ and_from _ _ p q ]

  below_put : (ts : Types) (a : K) (e : Keyed K) (t : List (Keyed K)) → before R a e.key ≡ true → is_below R a t ≡ true → is_below R a (put R ts e t) ≡ true
  unfolding put is_below
  below_put ts a e [] p q = below_keep ts a e.key (own ts e) [] p q
  below_put ts a e (f ∷ t) p q =
      elim (before R e.key f.key) as (λ b. is_below R a (cond b (keep ts e.key (own ts e) (f ∷ t)) (cond (same_key R e.key f.key) (keep ts f.key (row_plus ts e.row f.row) t) (f ∷ put R ts e t))) ≡ true) [
        | true ↦ below_keep ts a e.key (own ts e) (f ∷ t) p q
        | false ↦ elim (same_key R e.key f.key) as (λ b. is_below R a (cond b (keep ts f.key (row_plus ts e.row f.row) t) (f ∷ put R ts e t)) ≡ true) [
          | true ↦ below_keep ts a f.key (row_plus ts e.row f.row) t (and_parts (before R a f.key) (is_below R a t) q).0 (and_parts (before R a f.key) (is_below R a t) q).1
          | false ↦ and_from _ _ (and_parts (before R a f.key) (is_below R a t) q).0 (below_put ts a e t p (and_parts (before R a f.key) (is_below R a t) q).1)
        ]
      ]

  rises_keep : (ts : Types) (k : K) (r : Row) (t : List (Keyed K)) → is_below R k t ≡ true → rises R t ≡ true → rises R (keep ts k r t) ≡ true
  unfolding keep rises
  rises_keep ts k r t p q = elim (row_is_zero ts r) as (λ z. rises R (cond z t (record { key = k; row = r } ∷ t)) ≡ true) [ true ↦ q | false ↦ and_from _ _ p q ]

  all_below : (a b : K) (t : List (Keyed K)) → before R a b ≡ true → is_below R b t ≡ true → (before R a b && is_below R a t) ≡ true
  all_below a b t p q = and_from _ _ p (is_below_trans ko a b t p q)

  rises_put : (ts : Types) (e : Keyed K) (t : List (Keyed K)) → rises R t ≡ true → rises R (put R ts e t) ≡ true
  unfolding put rises is_below
  rises_put ts e [] h = rises_keep ts e.key (own ts e) [] refl refl
  rises_put ts e (f ∷ t) h =
      let low : is_below R f.key t ≡ true = (and_parts (is_below R f.key t) (rises R t) h).0 in
      let up : rises R t ≡ true = (and_parts (is_below R f.key t) (rises R t) h).1 in
      elim (before R e.key f.key) as (λ b. before R e.key f.key ≡ b → rises R (cond b (keep ts e.key (own ts e) (f ∷ t)) (cond (same_key R e.key f.key) (keep ts f.key (row_plus ts e.row f.row) t) (f ∷ put R ts e t))) ≡ true) [
        | true ↦ λ p. rises_keep ts e.key (own ts e) (f ∷ t) (all_below e.key f.key t p low) h
        | false ↦ λ p. elim (same_key R e.key f.key) as (λ b. same_key R e.key f.key ≡ b → rises R (cond b (keep ts f.key (row_plus ts e.row f.row) t) (f ∷ put R ts e t)) ≡ true) [
          | true ↦ λ k. rises_keep ts f.key (row_plus ts e.row f.row) t low up
          | false ↦ λ k. and_from _ _ (below_put ts f.key e t (after_by ko e.key f.key p k) low) (rises_put ts e t up)
        ] refl
      ] refl

  kept_put : (ts : Types) (e : Keyed K) (t : List (Keyed K)) → AllKept ts t → AllKept ts (put R ts e t)
  unfolding put AllKept
  kept_put ts e [] h = kept_keep ts e.key (own ts e) [] (row_zero_plus_plus ts (row_zero ts) e.row) tt
  kept_put ts e (f ∷ t) h =
      elim (before R e.key f.key) as (λ b. AllKept ts (cond b (keep ts e.key (own ts e) (f ∷ t)) (cond (same_key R e.key f.key) (keep ts f.key (row_plus ts e.row f.row) t) (f ∷ put R ts e t)))) [
        | true ↦ kept_keep ts e.key (own ts e) (f ∷ t) (row_zero_plus_plus ts (row_zero ts) e.row) h
        | false ↦ elim (same_key R e.key f.key) as (λ b. AllKept ts (cond b (keep ts f.key (row_plus ts e.row f.row) t) (f ∷ put R ts e t))) [
          | true ↦ kept_keep ts f.key (row_plus ts e.row f.row) t (row_zero_plus_plus ts e.row f.row) h.1
          | false ↦ (h.0, kept_put ts e t h.1)
        ]
      ]

  pub IsTable-put : (ts : Types) (e : Keyed K) (t : List (Keyed K)) → IsTable R ts t → IsTable R ts (put R ts e t)
  IsTable-put ts e t h = record { rising = rises_put ts e t h.rising; kept = kept_put ts e t h.kept }

  IsTable-none : (ts : Types) → IsTable R ts []
  unfolding rises AllKept
  IsTable-none ts = record { rising = refl; kept = tt }

  IsTable-puts : (ts : Types) (es : List (Keyed K)) → IsTable R ts (puts R ts es)
  unfolding puts
  IsTable-puts ts [] = IsTable-none ts
  IsTable-puts ts (e ∷ es) = IsTable-put ts e (puts R ts es) (IsTable-puts ts es)

  at_keep : (ts : Types) (k : K) (r : Row) (t : List (Keyed K)) (q : K) → row_plus ts (row_zero ts) r ≡ r → at R ts (keep ts k r t) q ≡ at R ts (record { key = k; row = r } ∷ t) q
  unfolding keep at
  at_keep ts k r t q whole =
      elim (row_is_zero ts r) as (λ z. row_is_zero ts r ≡ z → at R ts (cond z t (record { key = k; row = r } ∷ t)) q ≡ cond (same_key R q k) (row_plus ts r (at R ts t q)) (at R ts t q)) [
        | true ↦ λ z.
            let is : r ≡ row_zero ts = sym whole ∙ row_zero_from_is_zero ts r z in
            let none : row_plus ts r (at R ts t q) ≡ at R ts t q = ap (λ x. row_plus ts x (at R ts t q)) is ∙ at_whole ko ts t q in
            elim (same_key R q k) as (λ b. at R ts t q ≡ cond b (row_plus ts r (at R ts t q)) (at R ts t q)) [ true ↦ sym none | false ↦ refl ]
        | false ↦ λ z. refl
      ] refl

  at_own : (ts : Types) (e : Keyed K) (t : List (Keyed K)) (q : K) → at R ts (record { key = e.key; row = own ts e } ∷ t) q ≡ at R ts (e ∷ t) q
  unfolding at
  at_own ts e t q =
      elim (same_key R q e.key) as (λ b. cond b (row_plus ts (own ts e) (at R ts t q)) (at R ts t q) ≡ cond b (row_plus ts e.row (at R ts t q)) (at R ts t q)) [
        | true ↦ row_plus_assoc ts (row_zero ts) e.row (at R ts t q) ∙ row_zero_plus_plus ts e.row (at R ts t q)
        | false ↦ refl
      ]

  -- two entries of one key are as one with their sum
  at_two : (ts : Types) (k : K) (r s : Row) (t : List (Keyed K)) (q : K) → at R ts (record { key = k; row = row_plus ts r s } ∷ t) q ≡ at R ts (record { key = k; row = r } ∷ record { key = k; row = s } ∷ t) q
  unfolding at
  at_two ts k r s t q =
      elim (same_key R q k) as (λ b. cond b (row_plus ts (row_plus ts r s) (at R ts t q)) (at R ts t q) ≡ cond b (row_plus ts r (cond b (row_plus ts s (at R ts t q)) (at R ts t q))) (cond b (row_plus ts s (at R ts t q)) (at R ts t q))) [
        | true ↦ row_plus_assoc ts r s (at R ts t q)
        | false ↦ refl
      ]

  pub SameAt-put : (ts : Types) (e : Keyed K) (t : List (Keyed K)) → SameAt R ts (put R ts e t) (e ∷ t)
  unfolding put
  SameAt-put ts e [] = record { same = λ q. at_keep ts e.key (own ts e) [] q (row_zero_plus_plus ts (row_zero ts) e.row) ∙ at_own ts e [] q }
  SameAt-put ts e (f ∷ t) =
      elim (before R e.key f.key) as (λ b. SameAt R ts (cond b (keep ts e.key (own ts e) (f ∷ t)) (cond (same_key R e.key f.key) (keep ts f.key (row_plus ts e.row f.row) t) (f ∷ put R ts e t))) (e ∷ f ∷ t)) [
        | true ↦ record { same = λ q. at_keep ts e.key (own ts e) (f ∷ t) q (row_zero_plus_plus ts (row_zero ts) e.row) ∙ at_own ts e (f ∷ t) q }
        | false ↦ elim (same_key R e.key f.key) as (λ b. same_key R e.key f.key ≡ b → SameAt R ts (cond b (keep ts f.key (row_plus ts e.row f.row) t) (f ∷ put R ts e t)) (e ∷ f ∷ t)) [
          | true ↦ λ s.
              let is : f.key ≡ e.key = sym (same_key_is ko e.key f.key s) in
              record { same = λ q. at_keep ts f.key (row_plus ts e.row f.row) t q (row_zero_plus_plus ts e.row f.row) ∙ at_two ts f.key e.row f.row t q ∙ ap (λ (k : K). at R ts (record { key = k; row = e.row } ∷ f ∷ t) q) is }
          | false ↦ λ s. SameAt-trans ko (SameAt-cons ko ts f (SameAt-put ts e t)) (two_turned ko ts f e t)
        ] refl
      ]

  SameAt-puts : (ts : Types) (es : List (Keyed K)) → SameAt R ts (puts R ts es) es
  unfolding puts
  SameAt-puts ts [] = SameAt-refl ko ts []
  SameAt-puts ts (e ∷ es) = SameAt-trans ko (SameAt-put ts e (puts R ts es)) (SameAt-cons ko ts e (SameAt-puts ts es))

  pub total_puts : (ts : Types) (es : List (Keyed K)) → puts R ts es ≡ total R ts es
  total_puts ts es = total_by ko ts (puts R ts es) es (IsTable-puts ts es) (SameAt-puts ts es)

  -- the total of a list with one entry more
  pub total_cons : (ts : Types) (e : Keyed K) (es : List (Keyed K)) → total R ts (e ∷ es) ≡ put R ts e (total R ts es)
  total_cons ts e es =
      sym (total_by ko ts (put R ts e (total R ts es)) (e ∷ es) (IsTable-put ts e (total R ts es) (IsTable-total ko ts es)) (SameAt-trans ko (SameAt-put ts e (total R ts es)) (SameAt-cons ko ts e (SameAt-total ko ts es))))
