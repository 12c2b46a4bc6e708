-- The bytes of the name so far, and those of the rest, are all.
use Rattle.std.proofs.Common.{◌≡◌, ◌+◌, length}
use Rattle.lara_base.specs.Names.{goes_on}
use Rattle.lara_syntax.specs.ByteClasses.{run_len}
use Rattle.lara_syntax.proofs.classes.name_len.Given as goal

abbrev pub invariant-loop-rest : goal.invariant-loop-rest
invariant-loop-rest l = (run_len goes_on l.rest + l.len ≡ run_len goes_on l.bytes) × (length l.rest + l.len ≡ length l.bytes)

abbrev pub decreases-loop-rest : goal.decreases-loop-rest
decreases-loop-rest l = length l.rest
