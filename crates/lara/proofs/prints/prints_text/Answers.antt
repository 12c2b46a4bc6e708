use Rattle.std.proofs.Common.{sym, subst, ap, ◌∙◌, ◌++◌}
use Rattle.lara_data.specs.Denotations.{Printed}
use Rattle.lara_data.specs.Tables.{is_in_range}
use Rattle.lara.specs.declared.outcome.Outcome.TheVariants.{Range}
use Rattle.lara.specs.Endings.{Allows}
use Rattle.lara.specs.Prints.{print_text}
use Rattle.lara.specs.Ruling.{prints_text}
use Rattle.lara.proofs.PrintFacts.{no_prints, none_over, text_more, over_more, over_stops, all_printed}
use Rattle.lara.proofs.prints.prints_text.Goals as goal

pub loop-print-init : goal.loop-print-init
loop-print-init c = record { text = no_prints c.args.prints.now _ c.new-text.ensures; ranged = none_over c.args.prints.now }

pub returns-then-not-is_in_range-clause-gives : goal.returns-then-not-is_in_range-clause-gives
returns-then-not-is_in_range-clause-gives c =
    let ps = c.args.prints.now in
    let within = rw c.as_slice-print-items.ensures at c.loop-print-test.true in
    let here = rw c.as_slice-print-items.ensures at c.print-item.is in
    let over = ap (λ (p : Printed). is_in_range p.table) (sym c.print.view_is) ∙ sym c.if-not-is_in_range.ensures in
    subst (λ (p : Printed). Allows (prints_text ps) (Range p.statement)) (sym c.print.view_is) (over_stops ps c.loop-print.print-index c.print-item.result within here c.loop-print.invariant.ranged over)

pub loop-print-preserved : goal.loop-print-preserved
loop-print-preserved c =
    let ps = c.args.prints.now in
    let i = c.loop-print.print-index in
    let p = c.print-item.result in
    let within = rw c.as_slice-print-items.ensures at c.loop-print-test.true in
    let here = rw c.as_slice-print-items.ensures at c.print-item.is in
    record {
      text = text_more ps i p within here c.loop-print.text _ c.loop-print.invariant.text (c.in_ok-add_table_text.ensures ∙ ap (λ (q : Printed). c.loop-print.text ++ print_text q) c.print.view_is);
      ranged = over_more ps i p within here c.loop-print.invariant.ranged (ap (λ (q : Printed). is_in_range q.table) (sym c.print.view_is) ∙ sym c.if-not-is_in_range.ensures);
    }

pub returns-clause-gives : goal.returns-clause-gives
returns-clause-gives c = all_printed c.args.prints.now c.loop-print.print-index c.loop-print.text (rw c.as_slice-print-items.ensures at c.loop-print-test.false) c.loop-print.invariant.ranged c.loop-print.invariant.text
