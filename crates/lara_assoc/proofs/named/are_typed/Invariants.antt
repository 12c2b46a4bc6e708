use Rattle.std.proofs.Common.{take}
use Rattle.lara_data.specs.Fits.{TablesTyped}
use Rattle.lara_assoc.proofs.named.are_typed.Given as goal

-- each table so far is of its type
abbrev pub invariant-loop-named : goal.invariant-loop-named
invariant-loop-named l = TablesTyped (take l.named-index l.tables)
