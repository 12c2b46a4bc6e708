use Rattle.std.proofs.Common.{length}
use Rattle.lara_types.proofs.literal_entries.+wrong_val.Given as goal

abbrev pub decreases-wrong_val : goal.decreases-wrong_val
decreases-wrong_val l = length l.cols.now
