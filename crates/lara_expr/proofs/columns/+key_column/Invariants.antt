use Rattle.std.proofs.Common.{length}
use Rattle.lara_expr.proofs.columns.+key_column.Given as goal

abbrev pub decreases-key_column : goal.decreases-key_column
decreases-key_column l = length l.keys.now
