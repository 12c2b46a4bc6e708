use Rattle.std.proofs.Common.{length}
use Rattle.lara_types.proofs.each_types.+are_once.Given as goal

abbrev pub decreases-are_once : goal.decreases-are_once
decreases-are_once l = length l.defs.now
