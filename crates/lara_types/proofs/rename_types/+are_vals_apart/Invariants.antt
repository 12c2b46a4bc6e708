use Rattle.std.proofs.Common.{length}
use Rattle.lara_types.proofs.rename_types.+are_vals_apart.Given as goal

abbrev pub decreases-are_vals_apart : goal.decreases-are_vals_apart
decreases-are_vals_apart l = length l.vals.now
