-- The first of a list whose table is not in range.
use Rattle.std.specs.Prelude.{◌≡◌, ℕ, ◌+◌, ◌<◌, ◌≤◌, Bool, true, false, take, drop, length, List, [], ◌∷◌, ◌++◌, Option, Some, None, if◌then◌else◌}
use Rattle.std.proofs.Common.{refl, sym, ap, ◌∙◌, get_or}
use Rattle.std.proofs.lemmas.List.{take-append-drop, take_all, take_more}
use Rattle.lara_data.specs.Denotations.{Printed}
use Rattle.lara_data.specs.Tables.{Table, is_in_range}
use Rattle.lara.specs.Prints.{first_over}
use Rattle.lara.specs.Ranges.{first_past, print_past}

module _ {X : Type 0} (table : X → Table) (number : X → ℕ) where
  past-append : (xs ys : List X) → first_past table number xs ≡ None → first_past table number (xs ++ ys) ≡ first_past table number ys
  unfolding first_past
  past-append [] ys e = refl
  past-append (x ∷ xs) ys e =
      elim (is_in_range (table x)) as (λ b. (if b then first_past table number xs else Some (number x)) ≡ None → (if b then first_past table number (xs ++ ys) else Some (number x)) ≡ first_past table number ys) [
        | true ↦ λ f. past-append xs ys f
        | false ↦ λ f. cc
      ] e

  past-front : (xs ys : List X) (n : ℕ) → first_past table number xs ≡ Some n → first_past table number (xs ++ ys) ≡ Some n
  unfolding first_past
  past-front [] ys n e = cc
  past-front (x ∷ xs) ys n e =
      elim (is_in_range (table x)) as (λ b. (if b then first_past table number xs else Some (number x)) ≡ Some n → (if b then first_past table number (xs ++ ys) else Some (number x)) ≡ Some n) [
        | true ↦ λ f. past-front xs ys n f
        | false ↦ λ f. f
      ] e

  past-one : (x : X) → first_past table number (x ∷ []) ≡ (if is_in_range (table x) then None else Some (number x))
  unfolding first_past
  past-one x = refl

  -- before the first
  pub none_past : (xs : List X) → first_past table number (take 0 xs) ≡ None
  unfolding first_past
  none_past xs = refl

  -- x stands at i, and those before it are in range
  module _ (xs : List X) (i : ℕ) (x : X) (within : i < length xs) (here : x ≡ get_or xs i x) (so_far : first_past table number (take i xs) ≡ None) where
    more : take (i + 1) xs ≡ take i xs ++ x ∷ []
    more = take_more xs i x within ∙ ap (λ (y : X). take i xs ++ y ∷ []) (sym here)

    pub past_more : is_in_range (table x) ≡ true → first_past table number (take (i + 1) xs) ≡ None
    past_more ranged = rw (more, past-append (take i xs) (x ∷ []) so_far, past-one, ranged) refl

    pub past_here : is_in_range (table x) ≡ false → first_past table number xs ≡ Some (number x)
    past_here over =
        let front : first_past table number (take (i + 1) xs) ≡ Some (number x) = rw (more, past-append (take i xs) (x ∷ []) so_far, past-one, over) refl in
        ap (first_past table number) (sym (take-append-drop (i + 1) xs)) ∙ past-front (take (i + 1) xs) (drop (i + 1) xs) (number x) front

  -- behind the last
  pub all_past : (xs : List X) (i : ℕ) → length xs ≤ i → first_past table number (take i xs) ≡ None → first_past table number xs ≡ None
  all_past xs i past so_far = ap (first_past table number) (sym (take_all i xs past)) ∙ so_far

-- the first print that is out of range
pub over_is : (prints : List Printed) → first_over prints ≡ print_past prints
unfolding first_over first_past
over_is [] = refl
over_is (p ∷ ps) = ap (λ (o : Option ℕ). if is_in_range p.table then o else Some p.statement) (over_is ps)
