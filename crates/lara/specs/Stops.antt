-- A step of the rules answers, or stops the run at that step with that outcome. The first stop is the ruling.
use Rattle.std.specs.Prelude.{ℕ, Result, Err}
use Rattle.lara.specs.declared.outcome.Outcome.{Outcome}

-- The steps of a run, numbered in their order: of two stops the one with the lesser number is the ruling's. A command
-- takes those of them that it has.
-- The words are read.
abbrev pub at_words : ℕ
at_words = 1

-- the input is read to its end
abbrev pub at_input : ℕ
at_input = 2

-- the grammar reads the script
abbrev pub at_syntax : ℕ
at_syntax = 3

-- the catalog of the stored tables is read
abbrev pub at_catalog : ℕ
at_catalog = 4

-- the words are held against the stored tables
abbrev pub at_stored_words : ℕ
at_stored_words = 5

-- the script gets its types
abbrev pub at_types : ℕ
at_types = 6

-- the rewrites are chosen
abbrev pub at_choices : ℕ
at_choices = 7

-- there is room for what is to be stored
abbrev pub at_room : ℕ
at_room = 8

-- the cells of the stored tables are read
abbrev pub at_cells : ℕ
at_cells = 9

-- what is printed or stored is in range
abbrev pub at_range : ℕ
at_range = 10

-- what is to be stored is made ready
abbrev pub at_new_files : ℕ
at_new_files = 11

-- the text is written
abbrev pub at_output : ℕ
at_output = 12

-- the catalog is replaced
abbrev pub at_commit : ℕ
at_commit = 13

-- nothing is left to do
abbrev pub at_end : ℕ
at_end = 14

-- a step of the run, and the outcome with which the run ends there
pub record Stop : Type 0 where
  pub step : ℕ
  pub outcome : Outcome

-- the run stops at this step with this outcome
abbrev pub stop : {A : Type 0} → ℕ → Outcome → Result A Stop
stop step outcome = Err (record { step = step; outcome = outcome })
