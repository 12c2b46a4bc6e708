use Rattle.std.proofs.Common.{◌≡◌, take, false}
use Rattle.lara_semiring.specs.Rows.{row_is_over}
use Rattle.lara_semiring.proofs.row.is_row_over.Given as goal

-- no column so far is over
abbrev pub invariant-loop-i : goal.invariant-loop-i
invariant-loop-i l = row_is_over (take l.i l.tys) l.row ≡ false
