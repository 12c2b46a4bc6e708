-- What is left of the blanks in front is blank.
use Rattle.std.proofs.Common.{◌≡◌, ◌≤◌, length, false}
use Rattle.lara_syntax.specs.ByteClasses.{blank_in}
use Rattle.lara_syntax.proofs.classes.after_blank.Given as goal

abbrev pub invariant-loop-rest : goal.invariant-loop-rest
invariant-loop-rest l = (blank_in l.comment l.rest ≡ blank_in false l.bytes) × (length l.rest ≤ length l.bytes)

abbrev pub decreases-loop-rest : goal.decreases-loop-rest
decreases-loop-rest l = length l.rest
