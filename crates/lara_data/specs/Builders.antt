-- Passes that go through sums, made of smaller ones, and sums by groups.
use Rattle.std.specs.Prelude.{◌≡◌, Bool, true, false, cond, List, [], ◌∷◌, ◌++◌}
use Rattle.std.proofs.Common.{refl, sym, ap, ◌∙◌, subst, append_assoc}
use Rattle.std.specs.List.{flat_map}
use Rattle.std.specs.declared.cmp.Ordering.{Ordering}
use Rattle.lara_semiring.specs.Rows.{row_zero, row_plus, row_plus_assoc, row_plus_comm, row_zero_plus_plus, row_zero_twice}
use Rattle.lara_data.specs.declared.entry.Keyed.{Keyed}
use Rattle.lara_data.specs.KeyedTables.{IsKeyOrder, Types, Row, fitted, same_key, at, SameAt, total, with_keys}
use Rattle.lara_data.specs.KeyedLaws.{at_none, SameAt-refl, SameAt-trans, SameAt-append, SameAt-swap}
use Rattle.lara_data.specs.KeyedTotals.{total_of_totals}
use Rattle.lara_data.specs.Additive.{IsAdditive, SameAt-map}

-- a function of rows that keeps zero and sums, as the types read them
pub record IsLinear (ts us : Types) (f : Row → Row) : Type 0 where
  pub none : fitted us (f (row_zero ts)) ≡ row_zero us
  pub plus : (r s : Row) → fitted us (f (row_plus ts r s)) ≡ row_plus us (f r) (f s)

pub id_linear : (ts : Types) → IsLinear ts ts (λ r. r)
id_linear ts = record { none = row_zero_twice ts; plus = λ r s. row_zero_plus_plus ts r s }

pub flat_append : {X L : Type 0} (g : X → List (Keyed L)) (xs ys : List X) → flat_map g (xs ++ ys) ≡ flat_map g xs ++ flat_map g ys
flat_append g [] ys = refl
flat_append g (x ∷ xs) ys = ap (λ t. g x ++ t) (flat_append g xs ys) ∙ sym (append_assoc (g x) (flat_map g xs) (flat_map g ys))

flat_none : {X K : Type 0} (xs : List X) → flat_map (λ (x : X). let none : List (Keyed K) = [] in none) xs ≡ []
flat_none {X} {K} [] = refl
flat_none {X} {K} (x ∷ xs) = flat_none {X = X} {K = K} xs

pub with_keys_append : {K L : Type 0} (h : K → L) (xs ys : List (Keyed K)) → with_keys h (xs ++ ys) ≡ with_keys h xs ++ with_keys h ys
with_keys_append h [] ys = refl
with_keys_append h (x ∷ xs) ys = ap (λ t. record { key = h x.key; row = x.row } ∷ t) (with_keys_append h xs ys)

-- the rows summed by groups, where each key has its group
abbrev pub grouped : {K L : Type 0} → (L → L → Ordering) → Types → (K → L) → List (Keyed K) → List (Keyed L)
grouped S ts h es = total S ts (with_keys h es)

module _ {L : Type 0} {S : L → L → Ordering} (lo : IsKeyOrder S) where
  one_linear : (us : Types) (k q : L) (t r s : Row) → row_plus us (row_zero us) t ≡ row_plus us r s → at S us (record { key = k; row = t } ∷ []) q ≡ at S us (record { key = k; row = r } ∷ record { key = k; row = s } ∷ []) q
  unfolding at
  one_linear us k q t r s h =
      elim (same_key S q k) as (λ b. cond b (row_plus us t (row_zero us)) (row_zero us) ≡ cond b (row_plus us r (cond b (row_plus us s (row_zero us)) (row_zero us))) (cond b (row_plus us s (row_zero us)) (row_zero us))) [
        | true ↦ row_plus_comm us t (row_zero us) ∙ h ∙ sym (row_zero_plus_plus us r s) ∙ row_plus_comm us (row_zero us) (row_plus us r s) ∙ row_plus_assoc us r s (row_zero us)
        | false ↦ refl
      ]

  one_none : (us : Types) (k q : L) (t : Row) → row_plus us (row_zero us) t ≡ row_zero us → at S us (record { key = k; row = t } ∷ []) q ≡ row_zero us
  unfolding at
  one_none us k q t h = elim (same_key S q k) as (λ b. cond b (row_plus us t (row_zero us)) (row_zero us) ≡ row_zero us) [ true ↦ row_plus_comm us t (row_zero us) ∙ h | false ↦ refl ]

  -- one entry for each, with another key and a linear function of the row
  pub additive_one : {K : Type 0} (ts us : Types) (h : K → L) (f : Row → Row) → IsLinear ts us f → IsAdditive S ts us (λ (e : Keyed K). record { key = h e.key; row = f e.row } ∷ [])
  additive_one ts us h f l = record {
    none = λ k. record { same = λ q. one_none us (h k) q (f (row_zero ts)) l.none ∙ sym (at_none lo us q) };
    plus = λ k r s. record { same = λ q. one_linear us (h k) q (f (row_plus ts r s)) (f r) (f s) (l.plus r s) };
  }

  -- a choice by the key
  pub additive_where : {K : Type 0} {ts us : Types} {g : Keyed K → List (Keyed L)} (p : K → Bool) → IsAdditive S ts us g → IsAdditive S ts us (λ (e : Keyed K). cond (p e.key) (g e) [])
  additive_where {K} {ts} {us} {g} p a = record {
    none = λ k. elim (p k) as (λ b. SameAt S us (cond b (g (record { key = k; row = row_zero ts })) []) []) [ true ↦ a.none k | false ↦ SameAt-refl lo us [] ];
    plus = λ k r s. elim (p k) as (λ b. SameAt S us (cond b (g (record { key = k; row = row_plus ts r s })) []) (cond b (g (record { key = k; row = r })) [] ++ cond b (g (record { key = k; row = s })) [])) [ true ↦ a.plus k r s | false ↦ SameAt-refl lo us [] ];
  }

  crossed : (us : Types) (ps qs rs ss : List (Keyed L)) → SameAt S us ((ps ++ qs) ++ (rs ++ ss)) ((ps ++ rs) ++ (qs ++ ss))
  crossed us ps qs rs ss =
      let one : (ps ++ qs) ++ (rs ++ ss) ≡ ps ++ ((qs ++ rs) ++ ss) = append_assoc ps qs (rs ++ ss) ∙ ap (λ t. ps ++ t) (sym (append_assoc qs rs ss)) in
      let two : ps ++ ((rs ++ qs) ++ ss) ≡ (ps ++ rs) ++ (qs ++ ss) = ap (λ t. ps ++ t) (append_assoc rs qs ss) ∙ sym (append_assoc ps rs (qs ++ ss)) in
      let mid : SameAt S us (ps ++ ((qs ++ rs) ++ ss)) (ps ++ ((rs ++ qs) ++ ss)) = SameAt-append lo (SameAt-refl lo us ps) (SameAt-append lo (SameAt-swap lo us qs rs) (SameAt-refl lo us ss)) in
      subst (λ (x : List (Keyed L)). SameAt S us x ((ps ++ rs) ++ (qs ++ ss))) (sym one) (subst (SameAt S us (ps ++ ((qs ++ rs) ++ ss))) two mid)

  -- what two passes give item by item is what the one gives and then the other
  pub flat_both : {X : Type 0} (us : Types) (f g : X → List (Keyed L)) (xs : List X) → SameAt S us (flat_map (λ x. f x ++ g x) xs) (flat_map f xs ++ flat_map g xs)
  flat_both us f g [] = SameAt-refl lo us []
  flat_both us f g (x ∷ xs) =
      SameAt-trans lo (SameAt-append lo (SameAt-refl lo us (f x ++ g x)) (flat_both us f g xs)) (crossed us (f x) (g x) (flat_map f xs) (flat_map g xs))

  flat_same : {X : Type 0} (us : Types) (f g : X → List (Keyed L)) → ((x : X) → SameAt S us (f x) (g x)) → (xs : List X) → SameAt S us (flat_map f xs) (flat_map g xs)
  flat_same us f g h [] = SameAt-refl lo us []
  flat_same us f g h (x ∷ xs) = SameAt-append lo (h x) (flat_same us f g h xs)

  -- one side of a join: an additive pass for each item of the other side
  pub additive_each : {X K : Type 0} {ts us : Types} (g : X → Keyed K → List (Keyed L)) → ((x : X) → IsAdditive S ts us (g x)) → (xs : List X) → IsAdditive S ts us (λ (e : Keyed K). flat_map (λ x. g x e) xs)
  additive_each {X} {K} {ts} {us} g a xs = record {
    none = λ k. subst (SameAt S us (flat_map (λ x. g x (record { key = k; row = row_zero ts })) xs)) (flat_none xs) (flat_same us _ _ (λ x. (a x).none k) xs);
    plus = λ k r s. SameAt-trans lo (flat_same us _ _ (λ x. (a x).plus k r s) xs) (flat_both us (λ x. g x (record { key = k; row = r })) (λ x. g x (record { key = k; row = s })) xs);
  }

  pub keys_additive : {K : Type 0} (ts : Types) (h : K → L) → IsAdditive S ts ts (λ (e : Keyed K). record { key = h e.key; row = e.row } ∷ [])
  keys_additive ts h = additive_one ts ts h (λ r. r) (id_linear ts)

module _ {K L : Type 0} {R : K → K → Ordering} {S : L → L → Ordering} (ko : IsKeyOrder R) (lo : IsKeyOrder S) where
  -- lists with the same rows have the same rows under other keys
  pub SameAt-keys : (ts : Types) (h : K → L) {xs ys : List (Keyed K)} → SameAt R ts xs ys → SameAt S ts (with_keys h xs) (with_keys h ys)
  SameAt-keys ts h p = SameAt-map ko lo (keys_additive lo ts h) p

  -- sums by groups may be taken in parts
  pub grouped_append : (ts : Types) (h : K → L) (xs ys : List (Keyed K)) → grouped S ts h (xs ++ ys) ≡ total S ts (grouped S ts h xs ++ grouped S ts h ys)
  grouped_append ts h xs ys = ap (total S ts) (with_keys_append h xs ys) ∙ sym (total_of_totals lo ts (with_keys h xs) (with_keys h ys))
