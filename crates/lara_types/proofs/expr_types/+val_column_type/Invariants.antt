use Rattle.std.proofs.Common.{length}
use Rattle.lara_types.proofs.expr_types.+val_column_type.Given as goal

abbrev pub decreases-val_column_type : goal.decreases-val_column_type
decreases-val_column_type l = length l.vals.now
