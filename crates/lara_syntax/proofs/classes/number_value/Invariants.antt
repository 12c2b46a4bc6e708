-- The value so far, with the other digits behind it, is that of all.
use Rattle.std.proofs.Common.{◌≡◌, ◌<◌, length, true}
use Rattle.std.specs.List.{list_all}
use Rattle.std.specs.Char.{is_ascii_digit}
use Rattle.lara_syntax.specs.ByteClasses.{number_from}
use Rattle.lara_syntax.proofs.classes.number_value.Given as goal

abbrev pub invariant-loop-b : goal.invariant-loop-b
invariant-loop-b l = (number_from l.value l.rest ≡ number_from 0 l.digits) × (list_all is_ascii_digit l.rest ≡ true) × (l.value < 18446744073709551616)

abbrev pub decreases-loop-b : goal.decreases-loop-b
decreases-loop-b l = length l.rest
