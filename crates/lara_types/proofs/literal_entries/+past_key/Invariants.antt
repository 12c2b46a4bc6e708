use Rattle.std.proofs.Common.{length}
use Rattle.lara_types.proofs.literal_entries.+past_key.Given as goal

abbrev pub decreases-past_key : goal.decreases-past_key
decreases-past_key l = length l.lits.now
