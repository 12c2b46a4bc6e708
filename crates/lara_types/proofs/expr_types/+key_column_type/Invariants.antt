use Rattle.std.proofs.Common.{length}
use Rattle.lara_types.proofs.expr_types.+key_column_type.Given as goal

abbrev pub decreases-key_column_type : goal.decreases-key_column_type
decreases-key_column_type l = length l.keys.now
