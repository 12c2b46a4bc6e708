-- The loop goes on where the list stands.
use Rattle.std.proofs.Common.{◌≡◌, length}
use Rattle.lara_syntax.specs.Steps.{items_from}
use Rattle.lara_syntax.specs.Reading.{comma_name}
use Rattle.lara_syntax.proofs.rules.names.more_names.Given as goal

abbrev pub invariant-loop-names : goal.invariant-loop-names
invariant-loop-names l = items_from comma_name l.names l.rest ≡ items_from comma_name l.fn.names l.items

abbrev pub decreases-loop-names : goal.decreases-loop-names
decreases-loop-names l = length l.rest
