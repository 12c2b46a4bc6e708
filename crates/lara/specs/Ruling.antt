-- What a call has to answer: a text and what is stored, or the first stop. It is a function of the plugins, the words and
-- the input alone.
use Rattle.std.specs.Prelude.{◌≡◌, ℕ, List, [], Option, Some, None, Result, Ok, Err}
use Rattle.lara_base.specs.Moves.{Adds, AddsFront}
use Rattle.lara_data.specs.declared.script.Statement.{Statement}
use Rattle.lara_data.specs.Denotations.{Database, Printed, Answers, denotation}
use Rattle.lara_data.specs.Plugins.{Plugins}
use Rattle.lara_types.specs.Checks.{checked}
use Rattle.lara_base.specs.Results.{◌>>=◌}
use Rattle.lara.specs.declared.words.Command.{Command}
use Rattle.lara.specs.declared.words.Command.TheVariants.{Run}
use Rattle.lara.specs.declared.outcome.Outcome.{Outcome}
use Rattle.lara.specs.declared.outcome.Outcome.TheVariants.{Done, Range}
use Rattle.lara.specs.OutcomeTable.{Cause}
use Rattle.lara.specs.Stops.{Stop, stop, at_types, at_range}
use Rattle.lara.specs.Endings.{at_stop, Ended, shows, no_file}
use Rattle.lara.specs.Commands.{within, ReadsInput}
use Rattle.lara.specs.Words.{command_of}
use Rattle.lara.specs.ScriptBytes.{tree_of, at_step}
use Rattle.lara.specs.Prints.{first_over, texts}
use Rattle.lara.specs.Ranges.{past_range}

-- what is written, and the database that is stored; none where the command stores nothing, as none does yet
pub record Answer : Type 0 where
  pub text : List ℕ
  pub database : Option Database

-- an answer that stores nothing
abbrev pub printed : List ℕ → Answer
printed text = record { text = text; database = None }

-- ---- scripts

-- the prints, or the stop at this statement, which prints what is past its range
abbrev pub ranged : List Printed → Option ℕ → Result (List Printed) Stop
ranged prints None = Ok prints
ranged prints (Some statement) = stop at_range (Range statement)

-- the prints, where each table that is printed is in range
abbrev pub in_range : List Printed → Result (List Printed) Stop
in_range prints = ranged prints (first_over prints)

-- the text of the prints
unfoldable pub prints_text : List Printed → Result (List ℕ) Stop
prints_text prints = do
  ranged ← in_range prints
  Ok (texts ranged)

-- the typed script of the bytes, over no stored tables: that of their tree
abbrev pub statements_of : Plugins → List ℕ → Result (List Statement) Stop
statements_of ps bytes = do
  tree ← tree_of bytes
  at_step at_types (checked ps [] tree)

-- the texts of the prints, or the stop at this statement, which prints or stores what is past its range
abbrev pub by_range : List Printed → Option ℕ → Result Answer Stop
by_range prints None = Ok (printed (texts prints))
by_range prints (Some statement) = stop at_range (Range statement)

-- the answer to what a script prints and stores
abbrev pub answer_of : Answers → Result Answer Stop
answer_of d = by_range d.prints (past_range d)

-- the ruling on the bytes of a script: the answer to what its typed script prints and stores over no stored tables
unfoldable pub script_ruling : Plugins → List ℕ → Result Answer Stop
script_ruling ps bytes = do
  statements ← statements_of ps bytes
  answer_of (denotation ps [] statements)

-- ---- calls

-- the ruling on a command and its input, which is within the command's limit
unfoldable pub command_ruling : Plugins → Command → List ℕ → Result Answer Stop
command_ruling ps Run input = do
  bytes ← within Run input
  script_ruling ps bytes

-- the ruling on the words and the input of a call
unfoldable pub ruling : Plugins → List (List ℕ) → List ℕ → Result Answer Stop
ruling ps words input = do
  command ← command_of words
  command_ruling ps command input

-- ---- what it says of a call

-- the output got a front of the text; nothing where the rules refuse
abbrev pub Front : Result Answer Stop → (old new : Option (List ℕ)) → Type 0
Front (Ok answer) old new = AddsFront old new answer.text
Front (Err e) old new = at_stop e (Unit {0}) (new ≡ old)

-- the output got the whole text
abbrev pub Whole : Result Answer Stop → (old new : Option (List ℕ)) → Type 0
Whole (Ok answer) old new = Adds old new answer.text
Whole (Err e) old new = Unit {0}

-- what a call shows, with its input and its output as they were handed in: the input shows nothing where it is not read
abbrev pub call_shows : Result Command Stop → (source_rose sink_rose : Type 0) → Cause → Type 0
call_shows command s o = shows ⊥ (ReadsInput command × s) o no_file

-- All that the ruling says of a call: how it ended, and what the output has then.
pub record Tells (shown : Cause → Type 0) (ruled : Result Answer Stop) (result : Outcome) (old new : Option (List ℕ)) : Type 0 where
  pub ended : Ended shown ruled result
  pub front : Front ruled old new
  pub whole : result ≡ Done → Whole ruled old new
