-- The loop goes on where the list stands.
use Rattle.std.proofs.Common.{◌≡◌, length}
use Rattle.lara_syntax.specs.Steps.{items_from}
use Rattle.lara_syntax.specs.Reading.{semi_entry}
use Rattle.lara_syntax.proofs.rules.entries.more_entries.Given as goal

abbrev pub invariant-loop-entries : goal.invariant-loop-entries
invariant-loop-entries l = items_from semi_entry l.entries l.rest ≡ items_from semi_entry l.fn.entries l.items

abbrev pub decreases-loop-entries : goal.decreases-loop-entries
decreases-loop-entries l = length l.rest
