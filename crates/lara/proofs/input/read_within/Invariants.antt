use Rattle.std.proofs.Common.{◌≡◌, ◌≤◌, ◌-◌, ◌+◌, length}
use Rattle.lara_base.specs.Moves.{Takes}
use Rattle.lara.proofs.input.read_within.Given as goal

-- what was read is what was taken
abbrev pub invariant-loop-buf : goal.invariant-loop-buf
invariant-loop-buf g l =
    let left = g.S.Source.left in
    let faults = g.S.Source.faults in
    record {
      taken : Takes (left l.fn.input) (left l.input) l.bytes;
      short : length l.bytes ≤ l.limit + 1;
      room : length l.buf ≡ 4096;
      most : l.most ≡ l.limit + 1;
      later : faults l.fn.input ≤ faults l.input;
    }

abbrev pub decreases-loop-buf : goal.decreases-loop-buf
decreases-loop-buf g l = l.most - length l.bytes
