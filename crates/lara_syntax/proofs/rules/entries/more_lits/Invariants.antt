-- The loop goes on where the list stands.
use Rattle.std.proofs.Common.{◌≡◌, length}
use Rattle.lara_syntax.specs.Steps.{items_from}
use Rattle.lara_syntax.specs.Reading.{comma_lit}
use Rattle.lara_syntax.proofs.rules.entries.more_lits.Given as goal

abbrev pub invariant-loop-lits : goal.invariant-loop-lits
invariant-loop-lits l = items_from comma_lit l.lits l.rest ≡ items_from comma_lit l.fn.lits l.items

abbrev pub decreases-loop-lits : goal.decreases-loop-lits
decreases-loop-lits l = length l.rest
