use Rattle.std.proofs.Common.{length}
use Rattle.lara_types.proofs.rename_types.+new_name.Given as goal

abbrev pub decreases-new_name : goal.decreases-new_name
decreases-new_name l = length l.pairs.now
