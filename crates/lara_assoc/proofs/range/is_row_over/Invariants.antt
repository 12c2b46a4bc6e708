use Rattle.std.proofs.Common.{◌≡◌, take, false}
use Rattle.lara_semiring.specs.Rows.{row_is_over}
use Rattle.lara_data.specs.TableTypes.{types}
use Rattle.lara_assoc.proofs.range.is_row_over.Given as goal

-- no column so far is over
abbrev pub invariant-loop-i : goal.invariant-loop-i
invariant-loop-i l = row_is_over (types (take l.i l.vals)) l.row ≡ false
