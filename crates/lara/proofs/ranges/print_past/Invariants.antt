use Rattle.std.proofs.Common.{◌≡◌, take, None}
use Rattle.lara.specs.Ranges.{print_past}
use Rattle.lara.proofs.ranges.print_past.Given as goal

-- none of those so far is out of range
abbrev pub invariant-loop-print : goal.invariant-loop-print
invariant-loop-print l = print_past (take l.print-index l.prints) ≡ None
