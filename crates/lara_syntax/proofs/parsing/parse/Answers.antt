-- What stands in the grammar is what the bytes stand for.
use Rattle.std.proofs.Common.{Result, subst}
use Rattle.lara_data.specs.declared.refusal.Refusal.{Refusal}
use Rattle.lara_syntax.specs.declared.ast.Ast.{Ast}
use Rattle.lara_data.specs.Judgements.{Judges}
use Rattle.lara_syntax.proofs.ScriptLaws.{parsed-only}
use Rattle.lara_syntax.proofs.parsing.parse.Goals as goal

pub returns-clause-only : goal.returns-clause-only
returns-clause-only c = λ ast h. subst (λ (read : Result Ast Refusal). Judges (λ (x : Ast). x) read c.exact_tree.result) (parsed-only c.args.bytes.now ast h) c.exact_tree.ensures
