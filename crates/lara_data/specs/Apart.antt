-- Lists whose keys differ: to total them is to sort them, so anything goes through it; and what a total's keys keep.
use Rattle.std.specs.Prelude.{◌≡◌, Bool, true, false, cond, ◌&&◌, not, List, [], ◌∷◌, ◌++◌}
use Rattle.std.proofs.Common.{refl, sym, ap, ◌∙◌, subst}
use Rattle.std.proofs.lemmas.Bool.{and_from, and_parts, both_ways, not-true, not_from_false, false_from_ne_true}
use Rattle.std.specs.List.{flat_map}
use Rattle.std.specs.declared.cmp.Ordering.{Ordering}
use Rattle.lara_semiring.specs.Rows.{row_plus, row_is_zero}
use Rattle.lara_data.specs.declared.entry.Keyed.{Keyed}
use Rattle.lara_data.specs.KeyedTables.{IsKeyOrder, Types, Row, same_key, before, is_below, rises, SameAt, IsKept, AllKept, IsTable, total, with_keys, AllKeys}
use Rattle.lara_data.specs.KeyedOrderLaws.{same_key_itself, same_key_is, before_apart}
use Rattle.lara_data.specs.KeyedLaws.{SameAt-refl, SameAt-trans, SameAt-append, three_turned}
use Rattle.lara_data.specs.KeyedPuts.{own, keep, put, puts, total_puts}

module _ {K : Type 0} (R : K → K → Ordering) where
  -- the key is not in the list
  unfoldable pub lacks : K → List (Keyed K) → Bool
  lacks k [] = true
  lacks k (e ∷ es) = not (same_key R k e.key) && lacks k es

  -- no key comes twice
  unfoldable pub apart : List (Keyed K) → Bool
  apart [] = true
  apart (e ∷ es) = lacks e.key es && apart es

keep_kept : {K : Type 0} (ts : Types) (e : Keyed K) (t : List (Keyed K)) → IsKept ts e.row → keep ts e.key (own ts e) t ≡ e ∷ t
unfolding keep
keep_kept ts e t k =
    let w : own ts e ≡ e.row = k.within in
    let z : row_is_zero ts (own ts e) ≡ false = ap (row_is_zero ts) w ∙ k.not_default in
    λ i. cond (z i) t (record { key = e.key; row = w i } ∷ t)

module _ {K : Type 0} (R : K → K → Ordering) where
  lacks_keep : (ts : Types) (k q : K) (r : Row) (t : List (Keyed K)) → not (same_key R k q) ≡ true → lacks R k t ≡ true → lacks R k (keep ts q r t) ≡ true
  unfolding keep lacks
  lacks_keep ts k q r t n h = elim (row_is_zero ts r) as (λ z. lacks R k (cond z t (record { key = q; row = r } ∷ t)) ≡ true) [ true ↦ h | false ↦ and_from _ _ n h ]

  lacks_put : (ts : Types) (k : K) (e : Keyed K) (t : List (Keyed K)) → not (same_key R k e.key) ≡ true → lacks R k t ≡ true → lacks R k (put R ts e t) ≡ true
  unfolding put lacks
  lacks_put ts k e [] n h = lacks_keep ts k e.key (own ts e) [] n h
  lacks_put ts k e (f ∷ t) n h =
      let hf = (and_parts (not (same_key R k f.key)) (lacks R k t) h).0 in
      let ht = (and_parts (not (same_key R k f.key)) (lacks R k t) h).1 in
      elim (before R e.key f.key) as (λ b. lacks R k (cond b (keep ts e.key (own ts e) (f ∷ t)) (cond (same_key R e.key f.key) (keep ts f.key (row_plus ts e.row f.row) t) (f ∷ put R ts e t))) ≡ true) [
        | true ↦ lacks_keep ts k e.key (own ts e) (f ∷ t) n h
        | false ↦ elim (same_key R e.key f.key) as (λ b. lacks R k (cond b (keep ts f.key (row_plus ts e.row f.row) t) (f ∷ put R ts e t)) ≡ true) [
          | true ↦ lacks_keep ts k f.key (row_plus ts e.row f.row) t hf ht
          | false ↦ and_from _ _ hf (lacks_put ts k e t n ht)
        ]
      ]

  lacks_puts : (ts : Types) (k : K) (es : List (Keyed K)) → lacks R k es ≡ true → lacks R k (puts R ts es) ≡ true
  unfolding puts lacks
  lacks_puts ts k [] h = refl
  lacks_puts ts k (e ∷ es) h = lacks_put ts k e (puts R ts es) (and_parts (not (same_key R k e.key)) (lacks R k es) h).0 (lacks_puts ts k es (and_parts (not (same_key R k e.key)) (lacks R k es) h).1)

module _ {K L : Type 0} {R : K → K → Ordering} {S : L → L → Ordering} (ko : IsKeyOrder R) (lo : IsKeyOrder S) (ts us : Types) (g : Keyed K → List (Keyed L)) where
  flat_put_apart : (e : Keyed K) (t : List (Keyed K)) → lacks R e.key t ≡ true → IsKept ts e.row → SameAt S us (flat_map g (put R ts e t)) (g e ++ flat_map g t)
  unfolding put lacks
  flat_put_apart e [] h k = subst (λ (x : List (Keyed K)). SameAt S us (flat_map g x) (g e ++ [])) (sym (keep_kept ts e [] k)) (SameAt-refl lo us (g e ++ []))
  flat_put_apart e (f ∷ t) h k =
      elim (before R e.key f.key) as (λ b. SameAt S us (flat_map g (cond b (keep ts e.key (own ts e) (f ∷ t)) (cond (same_key R e.key f.key) (keep ts f.key (row_plus ts e.row f.row) t) (f ∷ put R ts e t)))) (g e ++ (g f ++ flat_map g t))) [
        | true ↦ subst (λ (x : List (Keyed K)). SameAt S us (flat_map g x) (g e ++ (g f ++ flat_map g t))) (sym (keep_kept ts e (f ∷ t) k)) (SameAt-refl lo us (g e ++ (g f ++ flat_map g t)))
        | false ↦ elim (same_key R e.key f.key) as (λ b. same_key R e.key f.key ≡ b → SameAt S us (flat_map g (cond b (keep ts f.key (row_plus ts e.row f.row) t) (f ∷ put R ts e t))) (g e ++ (g f ++ flat_map g t))) [
          | true ↦ λ s. absurd (both_ways (same_key R e.key f.key) (not-true (same_key R e.key f.key) (and_parts (not (same_key R e.key f.key)) (lacks R e.key t) h).0) s)
          | false ↦ λ s. SameAt-trans lo (SameAt-append lo (SameAt-refl lo us (g f)) (flat_put_apart e t (and_parts (not (same_key R e.key f.key)) (lacks R e.key t) h).1 k)) (three_turned lo us (g f) (g e) (flat_map g t))
        ] refl
      ]

  flat_puts_apart : (es : List (Keyed K)) → apart R es ≡ true → AllKept ts es → SameAt S us (flat_map g (puts R ts es)) (flat_map g es)
  unfolding puts apart AllKept
  flat_puts_apart [] h k = SameAt-refl lo us []
  flat_puts_apart (e ∷ es) h k =
      SameAt-trans lo (flat_put_apart e (puts R ts es) (lacks_puts R ts e.key es (and_parts (lacks R e.key es) (apart R es) h).0) k.0)
      (SameAt-append lo (SameAt-refl lo us (g e)) (flat_puts_apart es (and_parts (lacks R e.key es) (apart R es) h).1 k.1))

  -- any pass over the total of a list whose keys differ is the pass over the list
  pub flat_apart : (es : List (Keyed K)) → apart R es ≡ true → AllKept ts es → SameAt S us (flat_map g (total R ts es)) (flat_map g es)
  flat_apart es h k = subst (λ (x : List (Keyed K)). SameAt S us (flat_map g x) (flat_map g es)) (total_puts ko ts es) (flat_puts_apart es h k)

module _ {K : Type 0} {R : K → K → Ordering} (ko : IsKeyOrder R) (P : K → Type 0) where
  keys_keep : (ts : Types) (q : K) (r : Row) (t : List (Keyed K)) → P q → AllKeys P t → AllKeys P (keep ts q r t)
  unfolding keep AllKeys
  keys_keep ts q r t p h = elim (row_is_zero ts r) as (λ z. AllKeys P (cond z t (record { key = q; row = r } ∷ t))) [ true ↦ h | false ↦ (p, h) ]

  keys_put : (ts : Types) (e : Keyed K) (t : List (Keyed K)) → P e.key → AllKeys P t → AllKeys P (put R ts e t)
  unfolding put AllKeys
  keys_put ts e [] p h = keys_keep ts e.key (own ts e) [] p h
  keys_put ts e (f ∷ t) p h =
      elim (before R e.key f.key) as (λ b. AllKeys P (cond b (keep ts e.key (own ts e) (f ∷ t)) (cond (same_key R e.key f.key) (keep ts f.key (row_plus ts e.row f.row) t) (f ∷ put R ts e t)))) [
        | true ↦ keys_keep ts e.key (own ts e) (f ∷ t) p h
        | false ↦ elim (same_key R e.key f.key) as (λ b. AllKeys P (cond b (keep ts f.key (row_plus ts e.row f.row) t) (f ∷ put R ts e t))) [
          | true ↦ keys_keep ts f.key (row_plus ts e.row f.row) t h.0 h.1
          | false ↦ (h.0, keys_put ts e t p h.1)
        ]
      ]

  keys_puts : (ts : Types) (es : List (Keyed K)) → AllKeys P es → AllKeys P (puts R ts es)
  unfolding puts AllKeys
  keys_puts ts [] h = tt
  keys_puts ts (e ∷ es) h = keys_put ts e (puts R ts es) h.0 (keys_puts ts es h.1)

  -- what all keys of a list have, the keys of its total have
  pub keys_total : (ts : Types) (es : List (Keyed K)) → AllKeys P es → AllKeys P (total R ts es)
  keys_total ts es h = subst (AllKeys P) (total_puts ko ts es) (keys_puts ts es h)

  pub keys_append : (xs ys : List (Keyed K)) → AllKeys P xs → AllKeys P ys → AllKeys P (xs ++ ys)
  unfolding AllKeys
  keys_append [] ys p q = q
  keys_append (x ∷ xs) ys p q = (p.0, keys_append xs ys p.1 q)

  pub keys_flat : {X : Type 0} (g : X → List (Keyed K)) → ((x : X) → AllKeys P (g x)) → (xs : List X) → AllKeys P (flat_map g xs)
  unfolding AllKeys
  keys_flat g h [] = tt
  keys_flat g h (x ∷ xs) = keys_append (g x) (flat_map g xs) (h x) (keys_flat g h xs)

-- ---- other keys, each from one key

not_by : (b : Bool) → (b ≡ true → ⊥) → not b ≡ true
not_by b f = not_from_false b (false_from_ne_true b f)

-- rows that a table may keep stay so under other keys
pub kept_keys : {K L : Type 0} (h : K → L) (ts : Types) (es : List (Keyed K)) → AllKept ts es → AllKept ts (with_keys h es)
unfolding AllKept
kept_keys h ts [] k = tt
kept_keys h ts (e ∷ es) k = (k.0, kept_keys h ts es k.1)

module _ {K L : Type 0} {R : K → K → Ordering} {S : L → L → Ordering} (ko : IsKeyOrder R) (lo : IsKeyOrder S) (P : K → Type 0) (h : K → L) (inj : (a b : K) → P a → P b → h a ≡ h b → a ≡ b) where
  lacks_keys : (k : K) (es : List (Keyed K)) → P k → AllKeys P es → is_below R k es ≡ true → lacks S (h k) (with_keys h es) ≡ true
  unfolding AllKeys lacks is_below
  lacks_keys k [] p q b = refl
  lacks_keys k (e ∷ es) p q b =
      and_from _ _
      (not_by (same_key S (h k) (h e.key)) (λ s. both_ways (same_key R k e.key) (before_apart ko k e.key (and_parts (before R k e.key) (is_below R k es) b).0) (subst (λ (x : K). same_key R k x ≡ true) (inj k e.key p q.0 (same_key_is lo (h k) (h e.key) s)) (same_key_itself ko k))))
      (lacks_keys k es p q.1 (and_parts (before R k e.key) (is_below R k es) b).1)

  pub apart_keys : (es : List (Keyed K)) → AllKeys P es → rises R es ≡ true → apart S (with_keys h es) ≡ true
  unfolding AllKeys apart rises
  apart_keys [] q r = refl
  apart_keys (e ∷ es) q r = and_from _ _ (lacks_keys e.key es q.0 q.1 (and_parts (is_below R e.key es) (rises R es) r).0) (apart_keys es q.1 (and_parts (is_below R e.key es) (rises R es) r).1)

  -- any pass over the total of a table's rows under other keys is the pass over them
  pub flat_rekeyed : {M : Type 0} {T : M → M → Ordering} (mo : IsKeyOrder T) (ts us : Types) (g : Keyed L → List (Keyed M)) (es : List (Keyed K)) → IsTable R ts es → AllKeys P es → SameAt T us (flat_map g (total S ts (with_keys h es))) (flat_map g (with_keys h es))
  flat_rekeyed mo ts us g es t q = flat_apart lo mo ts us g (with_keys h es) (apart_keys es q t.rising) (kept_keys h ts es t.kept)
