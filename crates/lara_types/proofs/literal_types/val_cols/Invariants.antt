use Rattle.std.proofs.Common.{◌≡◌, map, take}
use Rattle.lara_types.specs.Written.{val_col}
use Rattle.lara_types.proofs.literal_types.val_cols.Given as goal

-- the columns so far
abbrev pub invariant-loop-val : goal.invariant-loop-val
invariant-loop-val l = l.cols ≡ map val_col (take l.val-index l.vals)
