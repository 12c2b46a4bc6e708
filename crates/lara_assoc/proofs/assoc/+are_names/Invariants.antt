use Rattle.std.specs.Prelude.{length}
use Rattle.lara_assoc.proofs.assoc.+are_names.Given as goal

-- the columns that are left
abbrev pub decreases-are_names : goal.decreases-are_names
decreases-are_names l = length l.keys.now
