-- The reader of scripts reads scripts, so that what bytes stand for decides the grammar.
use Rattle.std.proofs.Common.{◌≡◌, ℕ, suc, List, [], length, Ok, Err, arith}
use Rattle.lara_data.specs.declared.refusal.Refusal.{Refusal}
use Rattle.lara_syntax.specs.declared.ast.Ast.{Ast}
use Rattle.lara_syntax.specs.Limits.{Limits}
use Rattle.lara_syntax.specs.Steps.{Items}
use Rattle.lara_syntax.specs.Reading as r
use Rattle.lara_syntax.specs.Grammar.{Script}
use Rattle.lara_syntax.specs.Decided.{Decides}
use Rattle.lara_syntax.specs.Parsed.{parsed}
use Rattle.lara_syntax.specs.Refusals.{FirstWrong}
use Rattle.lara_syntax.specs.StartSymbols.{Stands}
use Rattle.lara_syntax.proofs.Turns.{read_of}
use Rattle.lara_syntax.proofs.Readers.{bind_ok}
use Rattle.lara_syntax.proofs.TableReaders.{tree_given, script-reads}
use Rattle.lara_syntax.proofs.CompleteTables.{script_reads}
use Rattle.lara_syntax.proofs.SoundTables.{statements_sound}
use Rattle.lara_syntax.proofs.SoundWords.{give_to}
use Rattle.lara_syntax.proofs.Room.{within}
use Rattle.lara_syntax.proofs.ViableScript.{script_viable}
use Rattle.lara_syntax.proofs.WiderRules.{script_widens}
use Rattle.lara_syntax.proofs.Parsers.{IsParser}
use Rattle.lara_syntax.proofs.OneRefusal.{parsed_decides}

script_sound : (limits : Limits) (ts : Items) (tree : Ast) (u : Items) → r.script limits ts ≡ read_of tree u → Script limits tree ts
unfolding r.script
script_sound limits ts tree u e =
    let h = bind_ok (r.statements limits [] ts) tree_given (tree, u) e in
    let s = statements_sound limits ts h.0 h.1 h.2 in
    give_to (λ t q. Script limits t ts) (r.tree_of h.0) h.1 tree u h.3 (s.0, within limits (suc (length ts)) [] h.0 ts h.1 (omega arith) h.2 (omega arith))

pub script_is_parser : IsParser Script r.script
script_is_parser = record {
  reader = script-reads;
  complete = script_reads;
  sound = script_sound;
  viable = script_viable;
  widens = script_widens;
}

pub parsed_decides_scripts : Decides Script parsed
unfolding parsed
parsed_decides_scripts = parsed_decides Script r.script script_is_parser

pub parsed-found : (bytes : List ℕ) (tree : Ast) → parsed bytes ≡ Ok tree → Stands Script bytes tree
parsed-found bytes tree h = parsed_decides_scripts.found bytes tree h

pub parsed-only : (bytes : List ℕ) (tree : Ast) → Stands Script bytes tree → parsed bytes ≡ Ok tree
parsed-only bytes tree h = parsed_decides_scripts.only bytes tree h

pub parsed-refused : (bytes : List ℕ) (refusal : Refusal) → parsed bytes ≡ Err refusal → FirstWrong Script bytes refusal
parsed-refused bytes refusal h = parsed_decides_scripts.refused bytes refusal h

pub parsed-only_refusal : (bytes : List ℕ) (refusal : Refusal) → FirstWrong Script bytes refusal → parsed bytes ≡ Err refusal
parsed-only_refusal bytes refusal h = parsed_decides_scripts.only_refusal bytes refusal h

pub ruleset parsed_laws = (parsed-found, parsed-only, parsed-refused, parsed-only_refusal, parsed_decides_scripts)
