-- The digits so far, and those of the rest, are all.
use Rattle.std.proofs.Common.{◌≡◌, ◌+◌, length}
use Rattle.std.specs.Char.{is_ascii_digit}
use Rattle.lara_syntax.specs.ByteClasses.{run_len}
use Rattle.lara_syntax.proofs.classes.digits_len.Given as goal

abbrev pub invariant-loop-rest : goal.invariant-loop-rest
invariant-loop-rest l = (run_len is_ascii_digit l.rest + l.len ≡ run_len is_ascii_digit l.bytes) × (length l.rest + l.len ≡ length l.bytes)

abbrev pub decreases-loop-rest : goal.decreases-loop-rest
decreases-loop-rest l = length l.rest
