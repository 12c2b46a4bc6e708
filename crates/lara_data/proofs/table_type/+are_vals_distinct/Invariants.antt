use Rattle.std.proofs.Common.{length}
use Rattle.lara_data.proofs.table_type.+are_vals_distinct.Given as goal

abbrev pub decreases-are_vals_distinct : goal.decreases-are_vals_distinct
decreases-are_vals_distinct l = length l.vals.now
