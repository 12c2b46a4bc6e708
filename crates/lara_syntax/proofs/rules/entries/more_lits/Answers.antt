-- The list ends where no item follows.
use Rattle.std.proofs.Common.{sym, ◌∙◌}
use Rattle.lara_syntax.specs.Reading.{comma_lit}
use Rattle.lara_syntax.proofs.Turns.{items-none}
use Rattle.lara_syntax.proofs.RuleReaders.{comma_lit-one}
use Rattle.lara_syntax.proofs.rules.entries.more_lits.Goals as goal

pub returns-in-None : goal.returns-in-None
returns-in-None c = sym c.loop-lits.invariant ∙ items-none comma_lit comma_lit-one c.loop-lits.lits c.loop-lits.rest.now c.in_ok-x.x c.in_ok-x.after.now c.in_ok-x.ensures.gives c.in-None.is
