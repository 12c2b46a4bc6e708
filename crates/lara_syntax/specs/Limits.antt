-- How long a script may be, and how deep.
use Rattle.std.specs.Prelude.{◌≤◌, ◌+◌, ℕ}
use Rattle.lara_syntax.specs.declared.count.Count.{Count}

-- nothing was counted
abbrev pub none_counted : Count
none_counted = record { operators = 0; signs = 0 }

-- an operator word more
abbrev pub one_operator : Count → Count
one_operator n = record { operators = n.operators + 1; signs = n.signs }

-- a sign or word between two parts of an expression more
abbrev pub one_sign : Count → Count
one_sign n = record { operators = n.operators; signs = n.signs + 1 }

-- two parts together
abbrev pub together : Count → Count → Count
together m n = record { operators = m.operators + n.operators; signs = m.signs + n.signs }

-- no more of anything
abbrev pub IsWithin : Count → Count → Type 0
IsWithin n most = (n.operators ≤ most.operators) × (n.signs ≤ most.signs)

-- how many statements a script may have, how many levels a table with its expressions, and how much of what is counted a statement
pub record Limits : Type 0 where
  pub statements : ℕ
  pub levels : ℕ
  pub counted : Count

-- those of the language
abbrev pub most : Limits
most = record { statements = 256; levels = 64; counted = record { operators = 64; signs = 1024 } }

-- the most bytes that a script may have
abbrev pub most_bytes : ℕ
most_bytes = 1048576
