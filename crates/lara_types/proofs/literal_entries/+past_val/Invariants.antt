use Rattle.std.proofs.Common.{length}
use Rattle.lara_types.proofs.literal_entries.+past_val.Given as goal

abbrev pub decreases-past_val : goal.decreases-past_val
decreases-past_val l = length l.lits.now
