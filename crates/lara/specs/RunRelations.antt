-- What a run has to do with the bytes of its script, in the relations themselves: which tree stands to the bytes, which
-- typed script the tree stands for, and why either is refused. No function that answers stands in between.
use Rattle.std.specs.Prelude.{◌≡◌, ◌≤◌, ◌<◌, ◌⊎◌, ℕ, List, [], length, Option, Some, None}
use Rattle.lara_base.specs.Moves.{Adds}
use Rattle.lara_data.specs.declared.refusal.Refusal.{Refusal}
use Rattle.lara_data.specs.declared.refusal.Kind.{Kind}
use Rattle.lara_data.specs.declared.refusal.Kind.TheVariants.{TooLong}
use Rattle.lara_data.specs.declared.script.Statement.{Statement}
use Rattle.lara_data.specs.Denotations.{denotation}
use Rattle.lara_data.specs.Plugins.{Plugins}
use Rattle.lara_syntax.specs.declared.ast.Ast.{Ast}
use Rattle.lara_syntax.specs.Grammar as grammar
use Rattle.lara_syntax.specs.Refusals.{FirstWrong}
use Rattle.lara_syntax.specs.StartSymbols.{Stands}
use Rattle.lara_types.specs.HasTypes.{HasTypes}
use Rattle.lara_types.specs.Refused.{Refused}
use Rattle.lara.specs.declared.outcome.Outcome.{Outcome}
use Rattle.lara.specs.declared.outcome.Outcome.TheVariants.{Done, Script, Range, SourceFault, Memory}
use Rattle.lara.specs.Commands.{script_limit}
use Rattle.lara.specs.Prints.{texts}
use Rattle.lara.specs.Ranges.{past_range}

-- The bytes are a script of these statements: within the limit, a tree stands to them in the grammar, and it has these types
-- over no stored tables.
pub record IsScript (ps : Plugins) (bytes : List ℕ) (ss : List Statement) : Type 0 where
  pub short : length bytes ≤ script_limit
  pub tree : Ast
  pub stands : Stands grammar.Script bytes tree
  pub typed : HasTypes ps [] tree ss

-- why bytes are no script: they are too many, or no tree stands to them, or the tree that does has no types
pub data ScriptRefused (ps : Plugins) (bytes : List ℕ) : Refusal → Type 0 where
  too_many : script_limit < length bytes → ScriptRefused ps bytes (record { at = script_limit; kind = TooLong })
  by_syntax : (r : Refusal) → length bytes ≤ script_limit → FirstWrong grammar.Script bytes r → ScriptRefused ps bytes r
  by_types : (r : Refusal) (tree : Ast) → length bytes ≤ script_limit → Stands grammar.Script bytes tree → Refused ps [] tree r → ScriptRefused ps bytes r

-- the run was ended by what lies in no script: the fault of its input, or want of memory
abbrev pub Disturbed : Outcome → Type 0
Disturbed outcome = (outcome ≡ SourceFault) ⊎ (outcome ≡ Memory)

-- All that is said of a run over these bytes, where what the output held became something new.
pub record RunTells (ps : Plugins) (bytes : List ℕ) (result : Outcome) (old new : Option (List ℕ)) : Type 0 where
  -- done only where the bytes are a script whose tables are in range
  pub done_only : result ≡ Done → (ss : List Statement) × IsScript ps bytes ss × (past_range (denotation ps [] ss) ≡ None)
  -- then the texts of what it prints were added, and nothing else
  pub done_text : (ss : List Statement) → IsScript ps bytes ss → result ≡ Done → Adds old new (texts (denotation ps [] ss).prints)
  -- a refusal of the script comes only where the relations say so, and there
  pub script_only : (r : Refusal) → result ≡ Script r.at r.kind → ScriptRefused ps bytes r
  pub script_comes : (r : Refusal) → ScriptRefused ps bytes r → (result ≡ Script r.at r.kind) ⊎ Disturbed result
  -- so does the number of the first statement that prints or stores a table that is out of range
  pub range_only : (statement : ℕ) → result ≡ Range statement → (ss : List Statement) × IsScript ps bytes ss × (past_range (denotation ps [] ss) ≡ Some statement)
  pub range_comes : (ss : List Statement) (statement : ℕ) → IsScript ps bytes ss → past_range (denotation ps [] ss) ≡ Some statement → (result ≡ Range statement) ⊎ Disturbed result
