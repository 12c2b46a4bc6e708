-- At which step each part of the ruling begins, and the parts in a row.
use Rattle.std.specs.Prelude.{◌≤◌, ◌≡◌, ℕ, List, [], true, false, Option, Some, None, Result, Ok, Err, length, nat_lt, if◌then◌else◌}
use Rattle.std.proofs.Common.{arith, refl}
use Rattle.lara_data.specs.declared.refusal.Refusal.{Refusal}
use Rattle.lara_data.specs.Denotations.{Printed, denotation}
use Rattle.lara_data.specs.Plugins.{Plugins}
use Rattle.lara_syntax.specs.Parsed.{parsed}
use Rattle.lara_types.specs.Checks.{checked}
use Rattle.lara_base.specs.Results.{◌>>=◌}
use Rattle.lara.specs.declared.outcome.Outcome.{Outcome}
use Rattle.lara.specs.declared.words.Command.{Command}
use Rattle.lara.specs.declared.words.Command.TheVariants.{Run}
use Rattle.lara.specs.OutcomeTable.{Cause, depot, source, sink, wrong}
use Rattle.lara.specs.Stops.{Stop, stop, at_input, at_syntax, at_types, at_range}
use Rattle.lara.specs.Endings.{Reaches, Stopped, Gives, no_fault, source_shows, shows, no_file}
use Rattle.lara.specs.Commands.{within, ReadsInput}
use Rattle.lara.specs.ScriptBytes.{tree_of, at_step}
use Rattle.lara.specs.Ranges.{past_range}
use Rattle.lara.specs.Words.{command_of}
use Rattle.lara.specs.Ruling.{Answer, printed, by_range, answer_of, statements_of, script_ruling, command_ruling, ruling, call_shows}
use Rattle.lara.proofs.Chains.{MetBy, reaches_then, earlier, stopped_then, refused_then, gives_then, stopped_more}
use Rattle.lara.proofs.Ends.{call_shows_more}

at_step-reaches : {A : Type 0} (j k : ℕ) (r : Result A Refusal) → j ≤ k → Reaches j (at_step k r)
at_step-reaches j k (Ok x) h = tt
at_step-reaches j k (Err e) h = h

by_range-reaches : (prints : List Printed) (past : Option ℕ) → Reaches at_syntax (by_range prints past)
by_range-reaches prints None = tt
by_range-reaches prints (Some n) = omega arith

statements_of-reaches : (ps : Plugins) (bytes : List ℕ) → Reaches at_syntax (statements_of ps bytes)
statements_of-reaches ps bytes =
    reaches_then (tree_of bytes) (λ tree. at_step at_types (checked ps [] tree)) at_syntax at_syntax (omega arith) (at_step-reaches at_syntax at_syntax (parsed bytes) (omega arith)) (λ tree. at_step-reaches at_syntax at_types (checked ps [] tree) (omega arith))

-- a script begins with its syntax
script_ruling-reaches : (ps : Plugins) (bytes : List ℕ) → Reaches at_syntax (script_ruling ps bytes)
unfolding script_ruling
script_ruling-reaches ps bytes =
    reaches_then (statements_of ps bytes) (λ statements. answer_of (denotation ps [] statements)) at_syntax at_syntax (omega arith) (statements_of-reaches ps bytes) (λ statements. by_range-reaches (denotation ps [] statements).prints (past_range (denotation ps [] statements)))

-- the source is met by the step of the syntax
source_met : (s : Type 0) → MetBy (source_shows s) at_syntax
source_met s depot h = absurd h
source_met s source h = omega arith
source_met s sink h = absurd h
source_met s (wrong file place) h = absurd h

-- there is one command
pub a_run : (command : Command) → command ≡ Run
a_run Run = refl

module _ (ps : Plugins) (input : List ℕ) where
  -- the reading stopped the run
  pub reading_stops : (s : Type 0) (o : Outcome) → Stopped (source_shows s) (within Run input) o → Stopped (source_shows s) (command_ruling ps Run input) o
  unfolding command_ruling
  reading_stops s o stops = stopped_then (source_shows s) (source_shows s) (within Run input) (λ bytes. script_ruling ps bytes) o at_syntax (λ c h. h) (source_met s) (λ bytes. script_ruling-reaches ps bytes) stops

  -- what was read is answered
  pub reading_answers : (s : Type 0) (bytes : List ℕ) (result : Result (List ℕ) Outcome) → within Run input ≡ Ok bytes → Gives printed no_fault (script_ruling ps bytes) result → Gives printed (source_shows s) (command_ruling ps Run input) result
  unfolding command_ruling
  reading_answers s bytes result e g = gives_then printed no_fault (source_shows s) (within Run input) bytes (λ b. script_ruling ps b) result e (λ c n. absurd n) g

  module _ (words : List (List ℕ)) where
    -- the words stopped the run
    pub words_stop : (many : Cause → Type 0) (o : Outcome) → Stopped no_fault (command_of words) o → Stopped many (ruling ps words input) o
    unfolding ruling
    words_stop many o stops = refused_then many (command_of words) (λ command. command_ruling ps command input) o stops

    -- the words are a command, and this is what it gives
    pub words_answer : (s : Type 0) (command : Command) (result : Result (List ℕ) Outcome) → command_of words ≡ Ok command → Gives printed (call_shows (Ok command) s ⊥) (command_ruling ps command input) result → Gives printed (call_shows (command_of words) s ⊥) (ruling ps words input) result
    unfolding ruling
    words_answer s command result e g = rw e g
