-- An order of distinct key columns is a permutation of them.
use Rattle.std.specs.Prelude.{◌≡◌, true, false, ◌&&◌, ◌||◌, ◌==◌, not, List, [], ◌∷◌, ◌++◌, length}
use Rattle.std.proofs.Common.{refl, sym, ap, subst, arith, length-append}
use Rattle.std.specs.List.{list_all}
use Rattle.std.specs.List.Sorted.{IsPermutation}
use Rattle.std.proofs.lemmas.Bool.{and_parts, eqb-true}
use Rattle.std.proofs.lemmas.List.Sorted.{IsPermutation-refl, IsPermutation-cons, IsPermutation-trans, IsPermutation-sym, IsPermutation-middle}
use Rattle.lara_data.specs.Names.{Name, same_name, same_name_is, same_name_itself, has, distinct, not_true, or_by}
use Rattle.lara_data.specs.TypedScripts.{is_order}

-- a name that is among others stands somewhere
record Stands (ns : List Name) (n : Name) : Type 0 where
  before : List Name
  behind : List Name
  is : ns ≡ before ++ n ∷ behind

stands : (ns : List Name) (n : Name) → has ns n ≡ true → Stands ns n
unfolding has
stands [] n h = cc
stands (m ∷ ns) n h =
    elim (same_name n m) as (λ b. same_name n m ≡ b → Stands (m ∷ ns) n) [
      | true ↦ λ s. record { before = []; behind = ns; is = ap (λ x. x ∷ ns) (sym (same_name_is n m s)) }
      | false ↦ λ s. further (stands ns n (or_by (same_name n m) (has ns n) s h))
    ] refl
  where
    further : Stands ns n → Stands (m ∷ ns) n
    further p = record { before = m ∷ p.before; behind = p.behind; is = ap (λ xs. m ∷ xs) p.is }

-- without one name of it, a list still has each other name
still_has : (before behind : List Name) (n k : Name) → same_name k n ≡ false → has (before ++ n ∷ behind) k ≡ true → has (before ++ behind) k ≡ true
unfolding has
still_has [] behind n k s h = or_by (same_name k n) (has behind k) s h
still_has (m ∷ before) behind n k s h =
    elim (same_name k m) as (λ b. (b || has (before ++ n ∷ behind) k) ≡ true → (b || has (before ++ behind) k) ≡ true) [
      | true ↦ λ e. refl
      | false ↦ λ e. still_has before behind n k s e
    ] h

-- a name that is not among others is none of them
none_of : (ns : List Name) (n k : Name) → has ns n ≡ false → has ns k ≡ true → same_name k n ≡ false
none_of ns n k f h =
    elim (same_name k n) as (λ b. same_name k n ≡ b → b ≡ false) [
      | true ↦ λ s. let e : has ns k ≡ has ns n = ap (has ns) (same_name_is k n s) in cc
      | false ↦ λ s. refl
    ] refl

all_still : (before behind : List Name) (n : Name) (ks : List Name) → has ks n ≡ false → list_all (has (before ++ n ∷ behind)) ks ≡ true → list_all (has (before ++ behind)) ks ≡ true
unfolding has
all_still before behind n [] f h = refl
all_still before behind n (k ∷ ks) f h =
    let both = and_parts (has (before ++ n ∷ behind) k) (list_all (has (before ++ n ∷ behind)) ks) h in
    let apart = none_of (k ∷ ks) n k f (ap (λ b. b || has ks k) (same_name_itself k)) in
    let less : has ks n ≡ false = elim (same_name n k) as (λ b. (b || has ks n) ≡ false → has ks n ≡ false) [ true ↦ λ e. cc | false ↦ λ e. e ] f in
    λ i. still_has before behind n k apart both.0 i && all_still before behind n ks less both.1 i

permutes : (order keys : List Name) → length order ≡ length keys → distinct keys ≡ true → list_all (has order) keys ≡ true → IsPermutation keys order
unfolding distinct
permutes [] [] l d h = IsPermutation-refl []
permutes (m ∷ order) [] l d h = absurd (omega arith)
permutes order (k ∷ keys) l d h =
    let both = and_parts (has order k) (list_all (has order) keys) h in
    let apart = and_parts (not (has keys k)) (distinct keys) d in
    let s = stands order k both.0 in
    let rest : list_all (has (s.before ++ s.behind)) keys ≡ true = all_still s.before s.behind k keys (not_true (has keys k) apart.0) (subst (λ (x : List Name). list_all (has x) keys ≡ true) s.is both.1) in
    let count : length (s.before ++ s.behind) ≡ length keys = omega (arith, l, ap length s.is, length-append s.before s.behind, length-append s.before (k ∷ s.behind)) in
    let inner = permutes (s.before ++ s.behind) keys count apart.1 rest in
    subst (IsPermutation (k ∷ keys)) (sym s.is)
    (IsPermutation-trans (k ∷ keys) (k ∷ (s.before ++ s.behind)) (s.before ++ k ∷ s.behind) (IsPermutation-cons k keys (s.before ++ s.behind) inner)
    (IsPermutation-sym (s.before ++ k ∷ s.behind) (k ∷ (s.before ++ s.behind)) (IsPermutation-middle s.before k s.behind)))

-- the order has each key column once
pub is_order-permutes : (order keys : List Name) → distinct keys ≡ true → is_order order keys ≡ true → IsPermutation keys order
unfolding is_order
is_order-permutes order keys d h =
    let both = and_parts (length order == length keys) (list_all (has order) keys) h in
    permutes order keys (eqb-true (length order) (length keys) both.0) d both.1
