use Rattle.std.proofs.Common.{length}
use Rattle.lara_types.proofs.literal_entries.+wrong_key.Given as goal

abbrev pub decreases-wrong_key : goal.decreases-wrong_key
decreases-wrong_key l = length l.cols.now
