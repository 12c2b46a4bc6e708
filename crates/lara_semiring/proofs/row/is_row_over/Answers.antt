use Rattle.std.proofs.Common.{sym, ◌∙◌, arith}
use Rattle.lara_semiring.proofs.OverFacts.{row_is_over_step, row_is_over_stop, row_is_over_end, row_is_over_none}
use Rattle.lara_semiring.specs.declared.value.ValType.TheVariants.{Count}
use Rattle.lara_semiring.proofs.row.is_row_over.Goals as goal

pub loop-i-init : goal.loop-i-init
loop-i-init c = row_is_over_none c.args.row.now

pub loop-i-preserved : goal.loop-i-preserved
loop-i-preserved c =
    row_is_over_step _ _ _ _ c.loop-i.i Count _ c.deref.ensures c.deref-in-loop-i.ensures c.requires (omega arith) c.index-deref-i.is (sym c.is_over.ensures ∙ c.if-is_over.false) c.loop-i.invariant

pub returns-then-is_over : goal.returns-then-is_over
returns-then-is_over c =
    row_is_over_stop _ _ _ _ c.loop-i.i Count _ c.deref.ensures c.deref-in-loop-i.ensures c.requires (omega arith) c.index-deref-i.is (sym c.is_over.ensures ∙ c.if-is_over.true)

pub returns : goal.returns
returns c = row_is_over_end _ _ c.loop-i.i (omega arith) c.loop-i.invariant
