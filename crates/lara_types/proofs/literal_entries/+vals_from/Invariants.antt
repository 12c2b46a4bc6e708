use Rattle.std.proofs.Common.{length}
use Rattle.lara_types.proofs.literal_entries.+vals_from.Given as goal

abbrev pub decreases-vals_from : goal.decreases-vals_from
decreases-vals_from l = length l.cols.now
