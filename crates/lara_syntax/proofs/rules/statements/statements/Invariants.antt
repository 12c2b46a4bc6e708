-- The loop goes on where the list stands.
use Rattle.std.proofs.Common.{◌≡◌, length, []}
use Rattle.lara_syntax.specs.Limits.{most}
use Rattle.lara_syntax.specs.Reading.{statements}
use Rattle.lara_syntax.proofs.rules.statements.statements.Given as goal

abbrev pub invariant-loop-xs : goal.invariant-loop-xs
invariant-loop-xs l = statements most l.xs l.rest ≡ statements most [] l.items

abbrev pub decreases-loop-xs : goal.decreases-loop-xs
decreases-loop-xs l = length l.rest
