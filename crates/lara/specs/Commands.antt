-- What each command has: its input, the limit of that, and how it may end.
use Rattle.std.specs.Prelude.{◌≡◌, ℕ, ◌+◌, List, length, Option, Some, Result, Ok, Err, nat_lt, if◌then◌else◌}
use Rattle.lara_data.specs.declared.refusal.Kind.TheVariants.{TooLong}
use Rattle.lara.specs.declared.words.Command.{Command}
use Rattle.lara.specs.declared.words.Command.TheVariants.{Run}
use Rattle.lara.specs.declared.outcome.Outcome.{Outcome}
use Rattle.lara.specs.declared.outcome.Outcome.TheVariants.{Script}
use Rattle.lara.specs.OutcomeTable.{Matter, of_words, of_script, of_triples, of_choices, of_range, of_catalog, of_room, Cause, depot, source, sink, wrong}
use Rattle.lara.specs.Stops.{Stop, stop, at_input}
use Rattle.lara.specs.Endings.{by_row}

-- the most bytes that a script may have
abbrev pub script_limit : ℕ
script_limit = 1048576

-- ---- the input

-- whether a command has input
abbrev pub HasInput : Command → Type 0
HasInput Run = Unit {0}

-- the most bytes that its input may have
abbrev pub limit_of : Command → ℕ
limit_of Run = script_limit

-- how an input that is longer is refused
abbrev pub too_long : Command → Outcome
too_long Run = Script script_limit TooLong

-- the bytes of an input, where they are within the limit
abbrev pub within : Command → List ℕ → Result (List ℕ) Stop
within command input = if nat_lt (limit_of command) (length input) then stop at_input (too_long command) else Ok input

-- whether a call reads its input: the words are a command that has some
abbrev pub ReadsInput : Result Command Stop → Type 0
ReadsInput (Ok command) = HasInput command
ReadsInput (Err e) = ⊥

-- the most bytes that a call takes of its input: one past the limit
abbrev pub most_read : Result Command Stop → ℕ
most_read (Ok command) = limit_of command + 1
most_read (Err e) = 0

-- A fact of the bytes of the input: of those that it tells, and where the call does not read it, of any.
abbrev pub Told : Type 0 → Option (List ℕ) → (List ℕ → Type 0) → Type 0
Told reads left fact = (bytes : List ℕ) → (reads → left ≡ Some bytes) → fact bytes

-- ---- how it may end

-- what a command may be refused for, once its words are read
abbrev pub MayRefuse : Command → Matter → Type 0
MayRefuse Run of_words = ⊥
MayRefuse Run of_script = Unit {0}
MayRefuse Run of_triples = ⊥
MayRefuse Run of_choices = ⊥
MayRefuse Run of_range = Unit {0}
MayRefuse Run of_catalog = ⊥
MayRefuse Run of_room = ⊥

-- what causes it may meet
abbrev pub MayMeet : Command → Cause → Type 0
MayMeet Run depot = ⊥
MayMeet Run source = Unit {0}
MayMeet Run sink = Unit {0}
MayMeet Run (wrong file place) = ⊥

-- the endings that a call can have at all: those of its command, or the one that its words have
abbrev pub CanCome : Result Command Stop → Outcome → Type 0
CanCome (Ok command) outcome = by_row outcome (Unit {0}) (MayRefuse command) (Unit {0}) (MayMeet command)
CanCome (Err e) outcome = outcome ≡ e.outcome
