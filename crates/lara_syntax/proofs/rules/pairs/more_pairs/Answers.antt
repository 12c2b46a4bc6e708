-- The list ends where no item follows.
use Rattle.std.proofs.Common.{sym, ◌∙◌}
use Rattle.lara_syntax.specs.Reading.{comma_pair}
use Rattle.lara_syntax.proofs.Turns.{items-none}
use Rattle.lara_syntax.proofs.RuleReaders.{comma_pair-one}
use Rattle.lara_syntax.proofs.rules.pairs.more_pairs.Goals as goal

pub returns-in-None : goal.returns-in-None
returns-in-None c = sym c.loop-pairs.invariant ∙ items-none comma_pair comma_pair-one c.loop-pairs.pairs c.loop-pairs.rest.now c.in_ok-x.x c.in_ok-x.after.now c.in_ok-x.ensures c.in-None.is
