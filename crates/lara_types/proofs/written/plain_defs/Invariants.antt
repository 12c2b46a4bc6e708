use Rattle.std.proofs.Common.{◌≡◌, take}
use Rattle.lara_types.specs.Written.{plain_defs}
use Rattle.lara_types.proofs.written.plain_defs.Given as goal

-- those so far
abbrev pub invariant-loop-def : goal.invariant-loop-def
invariant-loop-def l = l.plain ≡ plain_defs (take l.def-index l.defs)
