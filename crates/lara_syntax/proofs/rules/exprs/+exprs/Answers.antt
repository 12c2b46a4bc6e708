-- Each turn of a chain takes an operator.
use Rattle.std.proofs.Common.{rules, ◌≡◌, Some, sym, subst, ◌∙◌}
use Rattle.lara_syntax.specs.Limits.{most}
use Rattle.lara_syntax.specs.Steps.{Fails, head_word}
use Rattle.lara_syntax.specs.ExprReading.{part, next_two}
use Rattle.lara_syntax.proofs.ExprReaders.{joined-shortens, part-reads}
use Rattle.lara_syntax.proofs.ExprLoops.{chain-fails}
use Rattle.lara_syntax.proofs.rules.exprs.+exprs.Goals as goal

pub chain-returns-in_err-x-in-Some : goal.chain-returns-in_err-x-in-Some
chain-returns-in_err-x-in-Some t c =
    let next : next_two c.args.tightly (head_word c.loop-left.rest.now) ≡ Some c.in-Some.op = sym c.next_two.ensures ∙ c.in-Some.is in
    let failed = subst (λ q. Fails c.in_err-x-in-Some.field-0.0 q) c.loop-left.invariant (chain-fails c.args.tightly most.counted (part most.counted c.args.levels c.args.tightly) (part-reads most.counted c.args.levels c.args.tightly) (c.loop-left.left, c.loop-left.taken) c.in-Some.op c.loop-left.rest.now c.in_err-x-in-Some.field-0.0 next c.in_err-x-in-Some.ensures) in
    search (failed, rules)

pub chain-loop-left-smaller : goal.chain-loop-left-smaller
chain-loop-left-smaller t c = joined-shortens most.counted (part most.counted c.args.levels c.args.tightly) (part-reads most.counted c.args.levels c.args.tightly) (c.loop-left.left, c.loop-left.taken) c.in-Some.op c.loop-left.rest.now (c.in_ok-x-in-Some.x, c.in_ok-x-in-Some.count) c.in_ok-x-in-Some.after.now c.in_ok-x-in-Some.ensures
