-- The loop goes on where the list stands.
use Rattle.std.proofs.Common.{◌≡◌, length}
use Rattle.lara_syntax.specs.Steps.{items_from}
use Rattle.lara_syntax.specs.Reading.{comma_key_col}
use Rattle.lara_syntax.proofs.rules.columns.more_key_cols.Given as goal

abbrev pub invariant-loop-cols : goal.invariant-loop-cols
invariant-loop-cols l = items_from comma_key_col l.cols l.rest ≡ items_from comma_key_col l.fn.cols l.items

abbrev pub decreases-loop-cols : goal.decreases-loop-cols
decreases-loop-cols l = length l.rest
