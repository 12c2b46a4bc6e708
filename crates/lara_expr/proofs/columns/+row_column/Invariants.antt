use Rattle.std.proofs.Common.{length}
use Rattle.lara_expr.proofs.columns.+row_column.Given as goal

abbrev pub decreases-row_column : goal.decreases-row_column
decreases-row_column l = length l.vals.now
