-- The first statement of a script that prints or stores a table that is not in range.
use Rattle.std.specs.Prelude.{ℕ, min, List, [], ◌∷◌, Option, Some, None, if◌then◌else◌}
use Rattle.lara_data.specs.Denotations.{Printed, Stored, Answers}
use Rattle.lara_data.specs.Tables.{Table, is_in_range}

-- the number of the first of these whose table is not in range
unfoldable pub first_past : {X : Type 0} → (X → Table) → (X → ℕ) → List X → Option ℕ
first_past table number [] = None
first_past table number (x ∷ xs) = if is_in_range (table x) then first_past table number xs else Some (number x)

-- the lesser of two numbers, where there is one
abbrev pub lesser : Option ℕ → Option ℕ → Option ℕ
lesser None n = n
lesser (Some m) None = Some m
lesser (Some m) (Some n) = Some (min m n)

-- the first print, by its statement
abbrev pub print_past : List Printed → Option ℕ
print_past prints = first_past (λ p. p.table) (λ p. p.statement) prints

-- the first store, by its statement
abbrev pub store_past : List Stored → Option ℕ
store_past stores = first_past (λ s. s.table) (λ s. s.statement) stores

-- the first statement that prints or stores what is past its range
abbrev pub past_range : Answers → Option ℕ
past_range d = lesser (print_past d.prints) (store_past d.stores)
