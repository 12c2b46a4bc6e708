use Rattle.std.proofs.Common.{◌≡◌, map, take}
use Rattle.lara_types.specs.Written.{key_col}
use Rattle.lara_types.proofs.literal_types.key_cols.Given as goal

-- the columns so far
abbrev pub invariant-loop-key : goal.invariant-loop-key
invariant-loop-key l = l.cols ≡ map key_col (take l.key-index l.keys)
