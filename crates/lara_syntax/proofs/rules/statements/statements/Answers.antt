-- Each statement takes a word.
use Rattle.std.proofs.Common.{ap, ◌∙◌}
use Rattle.lara_syntax.proofs.Turns.{read_of}
use Rattle.lara_syntax.proofs.TableReaders.{next_statement-one}
use Rattle.lara_syntax.proofs.rules.statements.statements.Goals as goal

pub loop-xs-smaller : goal.loop-xs-smaller
loop-xs-smaller c = (next_statement-one _ _).shorter c.loop-xs.rest.now c.in-Some.x c.in_ok-x.after.now (c.in_ok-x.ensures ∙ ap (λ o. read_of o c.in_ok-x.after.now) c.in-Some.is)
