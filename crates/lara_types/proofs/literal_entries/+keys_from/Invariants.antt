use Rattle.std.proofs.Common.{length}
use Rattle.lara_types.proofs.literal_entries.+keys_from.Given as goal

abbrev pub decreases-keys_from : goal.decreases-keys_from
decreases-keys_from l = length l.cols.now
