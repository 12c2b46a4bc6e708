-- The greater and the lesser of two items by an order, and their laws.
use Rattle.std.specs.Prelude.{◌≡◌, Bool, true, false, cond}
use Rattle.std.proofs.Common.{refl, sym, arith}
use Rattle.std.specs.declared.cmp.Ordering.{Ordering}
use Rattle.std.specs.declared.cmp.Ordering.TheVariants.{Less, Equal, Greater}
use Rattle.std.specs.Ordering.{is_le, ordering_reverse}
use Rattle.std.specs.Cmp.{IsTotalOrder}
use Rattle.std.specs.FinMap.{IsAntisymmetric}
use Rattle.std.proofs.lemmas.Cmp.{alike_right}

-- a stands no later than b
abbrev pub no_later : {K : Type 0} → (K → K → Ordering) → K → K → Bool
no_later R a b = is_le (R a b)

-- the one that stands later
abbrev pub greater : {K : Type 0} → (K → K → Ordering) → K → K → K
greater R a b = cond (no_later R a b) b a

-- the one that stands earlier
abbrev pub lesser : {K : Type 0} → (K → K → Ordering) → K → K → K
lesser R a b = cond (no_later R a b) a b

-- a linear order as a test
pub record IsLinear {K : Type 0} (le : K → K → Bool) : Type 0 where
  pub trans : (a b c : K) → le a b ≡ true → le b c ≡ true → le a c ≡ true
  pub same : (a b : K) → le a b ≡ true → le b a ≡ true → a ≡ b
  pub either : (a b : K) → le a b ≡ false → le b a ≡ true

module _ {K : Type 0} (le : K → K → Bool) (o : IsLinear le) where
  pub high_comm : (a b : K) → cond (le a b) b a ≡ cond (le b a) a b
  high_comm a b = grind (arith, o.same, o.either)

  pub high_assoc : (a b c : K) → cond (le (cond (le a b) b a) c) c (cond (le a b) b a) ≡ cond (le a (cond (le b c) c b)) (cond (le b c) c b) a
  high_assoc a b c = grind (arith, o.same, o.either, o.trans)

  pub low_comm : (a b : K) → cond (le a b) a b ≡ cond (le b a) b a
  low_comm a b = grind (arith, o.same, o.either)

  pub low_assoc : (a b c : K) → cond (le (cond (le a b) a b) c) (cond (le a b) a b) c ≡ cond (le a (cond (le b c) b c)) a (cond (le b c) b c)
  low_assoc a b c = grind (arith, o.same, o.either, o.trans)

  pub low_high : (a b c : K) → cond (le a (cond (le b c) c b)) a (cond (le b c) c b) ≡ cond (le (cond (le a b) a b) (cond (le a c) a c)) (cond (le a c) a c) (cond (le a b) a b)
  low_high a b c = grind (arith, o.same, o.either, o.trans)

  -- a function that keeps the order goes through the lesser
  pub low_through : (f : K → K) → ((b c : K) → le b c ≡ true → le (f b) (f c) ≡ true) → (b c : K) → f (cond (le b c) b c) ≡ cond (le (f b) (f c)) (f b) (f c)
  low_through f keeps b c =
      elim (le b c) as (λ t. le b c ≡ t → f (cond t b c) ≡ cond (le (f b) (f c)) (f b) (f c)) [
        | true ↦ λ h. rw (keeps b c h) refl
        | false ↦ λ h.
            let back : le (f c) (f b) ≡ true = keeps c b (o.either b c h) in
            elim (le (f b) (f c)) as (λ t. le (f b) (f c) ≡ t → f c ≡ cond t (f b) (f c)) [
              | true ↦ λ g. o.same (f c) (f b) back g
              | false ↦ λ g. refl
            ] refl
      ] refl

linear_trans : (r s t : Ordering) → (r ≡ Less → s ≡ Less → t ≡ Less) → (r ≡ Equal → t ≡ s) → (s ≡ Equal → t ≡ r) → is_le r ≡ true → is_le s ≡ true → is_le t ≡ true
linear_trans Less Less t a b c p q = rw (a refl refl) refl
linear_trans Less Equal t a b c p q = rw (c refl) refl
linear_trans Equal s t a b c p q = rw (b refl) q
linear_trans r Greater t a b c p q = cc
linear_trans Greater s t a b c p q = cc

linear_same : (r s : Ordering) → r ≡ ordering_reverse s → is_le r ≡ true → is_le s ≡ true → r ≡ Equal
linear_same Less Less e p q = cc
linear_same Less Equal e p q = cc
linear_same Less Greater e p q = cc
linear_same Equal s e p q = refl
linear_same Greater s e p q = cc

linear_either : (r s : Ordering) → r ≡ ordering_reverse s → is_le r ≡ false → is_le s ≡ true
linear_either Less s e p = cc
linear_either Equal s e p = cc
linear_either Greater Less e p = refl
linear_either Greater Equal e p = refl
linear_either Greater Greater e p = cc

-- a total order in which only equal items tie is linear
pub linear : {K : Type 0} {R : K → K → Ordering} → IsTotalOrder R → IsAntisymmetric R → IsLinear (no_later R)
linear {K} {R} o same = record {
  trans = λ a b c p q. linear_trans (R a b) (R b c) (R a c) (o.trans a b c) (o.congr a b c) (λ e. sym (alike_right o b c a e)) p q;
  same = λ a b p q. same a b (linear_same (R a b) (R b a) (o.antisymm a b) p q);
  either = λ a b p. linear_either (R a b) (R b a) (o.antisymm a b) p;
}
