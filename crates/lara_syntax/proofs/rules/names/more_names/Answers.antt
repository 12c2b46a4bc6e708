-- The list ends where no item follows.
use Rattle.std.proofs.Common.{sym, ◌∙◌}
use Rattle.lara_syntax.specs.Reading.{comma_name}
use Rattle.lara_syntax.proofs.Turns.{items-none}
use Rattle.lara_syntax.proofs.RuleReaders.{comma_name-one}
use Rattle.lara_syntax.proofs.rules.names.more_names.Goals as goal

pub returns-in-None : goal.returns-in-None
returns-in-None c = sym c.loop-names.invariant ∙ items-none comma_name comma_name-one c.loop-names.names c.loop-names.rest.now c.in_ok-x.x c.in_ok-x.after.now c.in_ok-x.ensures c.in-None.is
