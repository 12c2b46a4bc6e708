use Rattle.std.proofs.Common.{length}
use Rattle.lara_types.proofs.each_types.+are_fit.Given as goal

abbrev pub decreases-are_fit : goal.decreases-are_fit
decreases-are_fit l = length l.defs.now
