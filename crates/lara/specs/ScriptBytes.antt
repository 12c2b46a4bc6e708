-- The bytes of a script, up to its tree.
use Rattle.std.specs.Prelude.{ℕ, List, Result, Ok, Err}
use Rattle.lara_syntax.specs.declared.ast.Ast.{Ast}
use Rattle.lara_data.specs.declared.refusal.Refusal.{Refusal}
use Rattle.lara_syntax.specs.Parsed.{parsed}
use Rattle.lara.specs.declared.outcome.Outcome.TheVariants.{Script, Memory}
use Rattle.lara.specs.declared.outcome.Outcome.{Outcome}
use Rattle.lara_data.specs.declared.refusal.ReadFault.{ReadFault}
use Rattle.lara_data.specs.declared.refusal.ReadFault.TheVariants.{Refused}
use Rattle.lara_data.specs.declared.refusal.ReadFault.TheVariants as faults
use Rattle.lara.specs.Stops.{Stop, stop, at_syntax}

-- what was judged at a step, with a refusal as the script's
abbrev pub at_step : {A : Type 0} → ℕ → Result A Refusal → Result A Stop
at_step step (Ok x) = Ok x
at_step step (Err refusal) = stop step (Script refusal.at refusal.kind)

-- the tree of the bytes
abbrev pub tree_of : List ℕ → Result Ast Stop
tree_of bytes = at_step at_syntax (parsed bytes)

-- the outcome of a script that was not read
abbrev pub outcome_of_fault : ReadFault → Outcome
outcome_of_fault (Refused refusal) = Script refusal.at refusal.kind
outcome_of_fault faults.Memory = Memory
