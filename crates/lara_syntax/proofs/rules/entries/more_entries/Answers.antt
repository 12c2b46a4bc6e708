-- The list ends where no item follows.
use Rattle.std.proofs.Common.{sym, ◌∙◌}
use Rattle.lara_syntax.specs.Reading.{semi_entry}
use Rattle.lara_syntax.proofs.Turns.{items-none}
use Rattle.lara_syntax.proofs.RuleReaders.{semi_entry-one}
use Rattle.lara_syntax.proofs.rules.entries.more_entries.Goals as goal

pub returns-in-None : goal.returns-in-None
returns-in-None c = sym c.loop-entries.invariant ∙ items-none semi_entry semi_entry-one c.loop-entries.entries c.loop-entries.rest.now c.in_ok-x.x c.in_ok-x.after.now c.in_ok-x.ensures c.in-None.is
