-- Each word that opens a level takes one; within a level the tighter an operator binds, the deeper its parts.
use Rattle.std.proofs.Common.{◌≡◌, ◌*◌, ◌+◌, ◌-◌, length}
use Rattle.lara_syntax.specs.Limits.{most}
use Rattle.lara_syntax.specs.Steps.{turns}
use Rattle.lara_syntax.specs.ExprReading.{operated, chain, part}
use Rattle.lara_syntax.proofs.rules.exprs.+exprs.Given as goal

abbrev pub decreases-call : goal.decreases-call
decreases-call l = 40 * l.levels + 1

abbrev pub decreases-brackets : goal.decreases-brackets
decreases-brackets l = 40 * l.levels + 1

abbrev pub decreases-atom : goal.decreases-atom
decreases-atom l = 40 * l.levels + 2

abbrev pub decreases-part : goal.decreases-part
decreases-part l = 40 * l.levels + 4 * (6 - l.tightly) + 3

abbrev pub decreases-joined : goal.decreases-joined
decreases-joined l = 40 * l.levels + 4 * (6 - l.tightly) + 4

abbrev pub decreases-chain : goal.decreases-chain
decreases-chain l = 40 * l.levels + 4 * (6 - l.tightly) + 5

abbrev pub decreases-comparison : goal.decreases-comparison
decreases-comparison l = 40 * l.levels + 21

abbrev pub decreases-negated : goal.decreases-negated
decreases-negated l = 40 * l.levels + 1

abbrev pub decreases-negation : goal.decreases-negation
decreases-negation l = 40 * l.levels + 22

abbrev pub decreases-branches : goal.decreases-branches
decreases-branches l = 40 * l.levels + 1

abbrev pub decreases-disjunction : goal.decreases-disjunction
decreases-disjunction l = 40 * l.levels + 30

abbrev pub decreases-expr : goal.decreases-expr
decreases-expr l = 40 * l.levels + 31

abbrev pub invariant-chain-loop-left : goal.invariant-chain-loop-left
invariant-chain-loop-left l = turns (operated l.fn.tightly most.counted (part most.counted l.fn.levels l.fn.tightly)) (l.left, l.taken) l.rest ≡ chain l.fn.tightly most.counted (part most.counted l.fn.levels l.fn.tightly) l.fn.taken l.items

abbrev pub decreases-chain-loop-left : goal.decreases-chain-loop-left
decreases-chain-loop-left l = length l.rest
