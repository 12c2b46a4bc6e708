-- Laws of totals, over any order of keys.
use Rattle.std.specs.Prelude.{◌≡◌, List, [], ◌∷◌, ◌++◌}
use Rattle.std.proofs.Common.{refl, sym, ap, ◌∙◌, subst, arith, ℕ, zero, suc, ◌<◌, length, get_or}
use Rattle.std.proofs.Math.ListN.{set, length-set}
use Rattle.std.specs.List.{flat_map, swap}
use Rattle.std.specs.List.Sorted.{IsPermutation, apply_swaps, SwapsInRange}
use Rattle.std.specs.declared.cmp.Ordering.{Ordering}
use Rattle.lara_semiring.specs.Rows.{row_plus}
use Rattle.lara_data.specs.declared.entry.Keyed.{Keyed}
use Rattle.lara_data.specs.KeyedTables.{IsKeyOrder, Types, at, SameAt, IsTable, total}
use Rattle.lara_data.specs.KeyedLaws.{at_append, at_total, SameAt-refl, SameAt-sym, SameAt-trans, SameAt-append, SameAt-swap, SameAt-cons, SameAt-total, two_turned, IsTable-total, table_unique}

module _ {K : Type 0} {R : K → K → Ordering} (ko : IsKeyOrder R) where
  -- a table with the rows of a list is its total
  pub total_by : (ts : Types) (t es : List (Keyed K)) → IsTable R ts t → SameAt R ts t es → t ≡ total R ts es
  total_by ts t es p h = table_unique ko ts t (total R ts es) p (IsTable-total ko ts es) (SameAt-trans ko h (SameAt-sym ko (SameAt-total ko ts es)))

  -- lists with the same rows have one total
  pub total_same : {ts : Types} {xs ys : List (Keyed K)} → SameAt R ts xs ys → total R ts xs ≡ total R ts ys
  total_same {ts} {xs} {ys} h = total_by ts (total R ts xs) ys (IsTable-total ko ts xs) (SameAt-trans ko (SameAt-total ko ts xs) h)

  pub SameAt-from_total : (ts : Types) (xs ys : List (Keyed K)) → total R ts xs ≡ total R ts ys → SameAt R ts xs ys
  SameAt-from_total ts xs ys e = record { same = λ k. sym (at_total ko ts xs k) ∙ ap (λ t. at R ts t k) e ∙ at_total ko ts ys k }

  -- a table is its own total
  pub total_table : (ts : Types) (t : List (Keyed K)) → IsTable R ts t → total R ts t ≡ t
  total_table ts t p = sym (total_by ts t t p (SameAt-refl ko ts t))

  pub total_twice : (ts : Types) (xs : List (Keyed K)) → total R ts (total R ts xs) ≡ total R ts xs
  total_twice ts xs = total_table ts (total R ts xs) (IsTable-total ko ts xs)

  -- the order of two parts does not matter
  pub total_turned : (ts : Types) (xs ys : List (Keyed K)) → total R ts (xs ++ ys) ≡ total R ts (ys ++ xs)
  total_turned ts xs ys = total_same (SameAt-swap ko ts xs ys)

  -- parts may be summed first
  pub total_of_totals : (ts : Types) (xs ys : List (Keyed K)) → total R ts (total R ts xs ++ total R ts ys) ≡ total R ts (xs ++ ys)
  total_of_totals ts xs ys = total_same (SameAt-append ko (SameAt-total ko ts xs) (SameAt-total ko ts ys))

  pub at_total_append : (ts : Types) (xs ys : List (Keyed K)) (k : K) → at R ts (total R ts (xs ++ ys)) k ≡ row_plus ts (at R ts (total R ts xs) k) (at R ts (total R ts ys) k)
  at_total_append ts xs ys k = at_total ko ts (xs ++ ys) k ∙ at_append ko ts xs ys k ∙ ap (λ r. row_plus ts r (at R ts ys k)) (sym (at_total ko ts xs k)) ∙ ap (row_plus ts (at R ts (total R ts xs) k)) (sym (at_total ko ts ys k))

  -- ---- any order of the list

  -- the first entry changes places with the one at i after it
  first_swapped : (ts : Types) (x d : Keyed K) (xs : List (Keyed K)) (i : ℕ) → i < length xs → SameAt R ts (x ∷ xs) (get_or xs i d ∷ set xs i x)
  first_swapped ts x d [] i h = absurd (omega arith)
  first_swapped ts x d (y ∷ xs) zero h = two_turned ko ts x y xs
  first_swapped ts x d (y ∷ xs) (suc i) h =
      SameAt-trans ko (two_turned ko ts x y xs) (SameAt-trans ko (SameAt-cons ko ts y (first_swapped ts x d xs i (omega arith))) (two_turned ko ts y (get_or xs i d) (set xs i x)))

  two_swapped : (ts : Types) (d : Keyed K) (xs : List (Keyed K)) (i j : ℕ) → i < length xs → j < length xs → SameAt R ts xs (set (set xs i (get_or xs j d)) j (get_or xs i d))
  two_swapped ts d [] i j h g = absurd (omega arith)
  two_swapped ts d (x ∷ xs) zero zero h g = SameAt-refl ko ts (x ∷ xs)
  two_swapped ts d (x ∷ xs) zero (suc j) h g = first_swapped ts x d xs j (omega arith)
  two_swapped ts d (x ∷ xs) (suc i) zero h g = first_swapped ts x d xs i (omega arith)
  two_swapped ts d (x ∷ xs) (suc i) (suc j) h g = SameAt-cons ko ts x (two_swapped ts d xs i j (omega arith) (omega arith))

  SameAt-swapped : (ts : Types) (xs : List (Keyed K)) (i j : ℕ) → i < length xs → j < length xs → SameAt R ts xs (swap xs i j)
  SameAt-swapped ts [] i j h g = SameAt-refl ko ts []
  SameAt-swapped ts (x ∷ xs) i j h g = two_swapped ts x (x ∷ xs) i j h g

  length-swap : (xs : List (Keyed K)) (i j : ℕ) → length (swap xs i j) ≡ length xs
  length-swap [] i j = refl
  length-swap (x ∷ xs) i j = simp length-set

  length-swaps : (xs : List (Keyed K)) (ps : List (ℕ × ℕ)) → length (apply_swaps xs ps) ≡ length xs
  length-swaps xs [] = refl
  length-swaps xs (p ∷ ps) = length-swap (apply_swaps xs ps) p.0 p.1 ∙ length-swaps xs ps

  SameAt-swaps : (ts : Types) (xs : List (Keyed K)) (ps : List (ℕ × ℕ)) → SwapsInRange (length xs) ps → SameAt R ts xs (apply_swaps xs ps)
  SameAt-swaps ts xs [] h = SameAt-refl ko ts xs
  SameAt-swaps ts xs (p ∷ ps) h =
      let n = length-swaps xs ps in
      SameAt-trans ko (SameAt-swaps ts xs ps h.2) (SameAt-swapped ts (apply_swaps xs ps) p.0 p.1 (omega (arith, n, h.0)) (omega (arith, n, h.1)))

  pub SameAt-permutation : (ts : Types) (xs ys : List (Keyed K)) → IsPermutation xs ys → SameAt R ts xs ys
  SameAt-permutation ts xs ys h = subst (SameAt R ts xs) (sym h.is) (SameAt-swaps ts xs h.moves h.below)

  pub total_permutation : (ts : Types) (xs ys : List (Keyed K)) → IsPermutation xs ys → total R ts xs ≡ total R ts ys
  total_permutation ts xs ys h = total_same (SameAt-permutation ts xs ys h)

  -- ---- lists of parts

  pub total_parts : {X : Type 0} (ts : Types) (f g : X → List (Keyed K)) → ((x : X) → SameAt R ts (f x) (g x)) → (xs : List X) → SameAt R ts (flat_map f xs) (flat_map g xs)
  total_parts ts f g h [] = SameAt-refl ko ts []
  total_parts ts f g h (x ∷ xs) = SameAt-append ko (h x) (total_parts ts f g h xs)
