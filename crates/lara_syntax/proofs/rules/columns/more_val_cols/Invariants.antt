-- The loop goes on where the list stands.
use Rattle.std.proofs.Common.{◌≡◌, length}
use Rattle.lara_syntax.specs.Steps.{items_from}
use Rattle.lara_syntax.specs.Reading.{comma_val_col}
use Rattle.lara_syntax.proofs.rules.columns.more_val_cols.Given as goal

abbrev pub invariant-loop-cols : goal.invariant-loop-cols
invariant-loop-cols l = items_from comma_val_col l.cols l.rest ≡ items_from comma_val_col l.fn.cols l.items

abbrev pub decreases-loop-cols : goal.decreases-loop-cols
decreases-loop-cols l = length l.rest
