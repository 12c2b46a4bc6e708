use Rattle.std.specs.Prelude.{◌≡◌, Some}
use Rattle.std.proofs.Common.{sym, ap, subst, ◌∙◌}
use Rattle.lara_data.specs.Denotations.{Printed}
use Rattle.lara_data.specs.Tables.{is_in_range}
use Rattle.lara.specs.Ranges.{print_past}
use Rattle.lara.proofs.RangeFacts.{none_past, past_more, past_here}
use Rattle.lara.proofs.ranges.print_past.Goals as goal

pub loop-print-init : goal.loop-print-init
loop-print-init c = none_past (λ (x : Printed). x.table) (λ x. x.statement) c.args.prints.now

pub returns-then-not-is_in_range : goal.returns-then-not-is_in_range
returns-then-not-is_in_range c =
    let xs = c.args.prints.now in
    let within = rw c.as_slice-print-items.ensures at c.loop-print-test.true in
    let here = rw c.as_slice-print-items.ensures at c.print-item.is in
    let over = ap (λ (x : Printed). is_in_range x.table) (sym c.print.view_is) ∙ sym c.if-not-is_in_range.ensures in
    subst (λ (x : Printed). Some x.statement ≡ print_past xs) (sym c.print.view_is) (sym (past_here (λ (x : Printed). x.table) (λ x. x.statement) xs c.loop-print.print-index c.print-item.result within here c.loop-print.invariant over))

pub loop-print-preserved : goal.loop-print-preserved
loop-print-preserved c =
    let xs = c.args.prints.now in
    let within = rw c.as_slice-print-items.ensures at c.loop-print-test.true in
    let here = rw c.as_slice-print-items.ensures at c.print-item.is in
    past_more (λ (x : Printed). x.table) (λ x. x.statement) xs c.loop-print.print-index c.print-item.result within here c.loop-print.invariant (ap (λ (x : Printed). is_in_range x.table) (sym c.print.view_is) ∙ sym c.if-not-is_in_range.ensures)
