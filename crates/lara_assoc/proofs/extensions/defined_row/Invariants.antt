use Rattle.std.proofs.Common.{◌≡◌, take}
use Rattle.lara_data.specs.Extensions.{defined_row}
use Rattle.lara_assoc.proofs.extensions.defined_row.Given as goal

-- the values so far
abbrev pub invariant-loop-def : goal.invariant-loop-def
invariant-loop-def l = l.computed ≡ defined_row l.ty (take l.def-index l.defs) (record { key = l.key; row = l.row })
