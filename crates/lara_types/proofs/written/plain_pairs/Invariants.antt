use Rattle.std.proofs.Common.{◌≡◌, take}
use Rattle.lara_types.specs.Written.{plain_pairs}
use Rattle.lara_types.proofs.written.plain_pairs.Given as goal

-- those so far
abbrev pub invariant-loop-pair : goal.invariant-loop-pair
invariant-loop-pair l = l.plain ≡ plain_pairs (take l.pair-index l.pairs)
