-- Prints one after the other.
use Rattle.std.specs.Prelude.{◌≡◌, ℕ, ◌+◌, ◌<◌, ◌≤◌, true, false, take, drop, length, List, [], ◌∷◌, ◌++◌, Some, None, Ok, if◌then◌else◌}
use Rattle.std.proofs.Common.{refl, sym, ap, ◌∙◌, get_or}
use Rattle.std.specs.List.{flat_map}
use Rattle.std.proofs.lemmas.Grind.{flat_map-append}
use Rattle.std.proofs.lemmas.List.{append-nil, take-append-drop, take_all, take_more}
use Rattle.lara_data.specs.Denotations.{Printed}
use Rattle.lara_data.specs.Tables.{is_in_range}
use Rattle.lara.specs.declared.outcome.Outcome.TheVariants.{Range}
use Rattle.lara.specs.Endings.{Allows}
use Rattle.lara.specs.Prints.{first_over, print_text, texts}
use Rattle.lara.specs.Ruling.{prints_text}

first_over-append : (xs ys : List Printed) → first_over xs ≡ None → first_over (xs ++ ys) ≡ first_over ys
unfolding first_over
first_over-append [] ys e = refl
first_over-append (p ∷ xs) ys e =
    elim (is_in_range p.table) as (λ b. (if b then first_over xs else Some p.statement) ≡ None → (if b then first_over (xs ++ ys) else Some p.statement) ≡ first_over ys) [
      | true ↦ λ f. first_over-append xs ys f
      | false ↦ λ f. cc
    ] e

-- the first that is out of range stays the first
first_over-front : (xs ys : List Printed) (n : ℕ) → first_over xs ≡ Some n → first_over (xs ++ ys) ≡ Some n
unfolding first_over
first_over-front [] ys n e = cc
first_over-front (p ∷ xs) ys n e =
    elim (is_in_range p.table) as (λ b. (if b then first_over xs else Some p.statement) ≡ Some n → (if b then first_over (xs ++ ys) else Some p.statement) ≡ Some n) [
      | true ↦ λ f. first_over-front xs ys n f
      | false ↦ λ f. f
    ] e

first_over-one : (p : Printed) → first_over (p ∷ []) ≡ (if is_in_range p.table then None else Some p.statement)
unfolding first_over
first_over-one p = refl

texts-more : (xs : List Printed) (p : Printed) → texts (xs ++ p ∷ []) ≡ texts xs ++ print_text p
unfolding texts
texts-more xs p = flat_map-append print_text xs (p ∷ []) ∙ ap (λ (t : List ℕ). flat_map print_text xs ++ t) (append-nil (print_text p))

-- before the first print
pub no_prints : (ps : List Printed) (text : List ℕ) → text ≡ [] → text ≡ texts (take 0 ps)
unfolding texts
no_prints ps text e = e

pub none_over : (ps : List Printed) → first_over (take 0 ps) ≡ None
unfolding first_over
none_over ps = refl

-- p is the print at i
module _ (ps : List Printed) (i : ℕ) (p : Printed) (within : i < length ps) (here : p ≡ get_or ps i p) where
  more : take (i + 1) ps ≡ take i ps ++ p ∷ []
  more = take_more ps i p within ∙ ap (λ (q : Printed). take i ps ++ q ∷ []) (sym here)

  -- with one more print
  pub text_more : (text new : List ℕ) → text ≡ texts (take i ps) → new ≡ text ++ print_text p → new ≡ texts (take (i + 1) ps)
  text_more text new so_far after = after ∙ ap (λ (t : List ℕ). t ++ print_text p) so_far ∙ sym (ap texts more ∙ texts-more (take i ps) p)

  pub over_more : first_over (take i ps) ≡ None → is_in_range p.table ≡ true → first_over (take (i + 1) ps) ≡ None
  over_more so_far ranged = rw (more, first_over-append (take i ps) (p ∷ []) so_far, first_over-one, ranged) refl

  -- the first that is out of range stops the script
  pub over_stops : first_over (take i ps) ≡ None → is_in_range p.table ≡ false → Allows (prints_text ps) (Range p.statement)
  unfolding prints_text
  over_stops so_far over =
      let front : first_over (take (i + 1) ps) ≡ Some p.statement = rw (more, first_over-append (take i ps) (p ∷ []) so_far, first_over-one, over) refl in
      let whole : first_over ps ≡ Some p.statement = ap first_over (sym (take-append-drop (i + 1) ps)) ∙ first_over-front (take (i + 1) ps) (drop (i + 1) ps) p.statement front in
      rw whole refl

-- after the last print
pub all_printed : (ps : List Printed) (i : ℕ) (text : List ℕ) → length ps ≤ i → first_over (take i ps) ≡ None → text ≡ texts (take i ps) → prints_text ps ≡ Ok text
unfolding prints_text
all_printed ps i text past ranged so_far =
    let whole = take_all i ps past in
    let none : first_over ps ≡ None = rw whole at ranged in
    let all : text ≡ texts ps = rw whole at so_far in
    rw (none, all) refl
