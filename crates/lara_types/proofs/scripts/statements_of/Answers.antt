use Rattle.std.proofs.lemmas.Result.{err_from_is_err_and}
use Rattle.lara_types.proofs.CheckedScripts.{checked_none, checked_more, checked_stops}
use Rattle.lara_types.proofs.ColumnNames.{fault_through}
use Rattle.lara_types.proofs.scripts.statements_of.Goals as goal

pub loop-written-init : goal.loop-written-init
loop-written-init g c = checked_none _ c.args.stored.now _ _ c.new-known.ensures c.new-statements.ensures

pub returns-in_err-statement : goal.returns-in_err-statement
returns-in_err-statement g c =
    let p = err_from_is_err_and c.from_residual.result c.from_residual.ensures.1 in
    let here = rw c.as_slice-written-items.ensures at c.written-item.is in
    let within = rw c.as_slice-written-items.ensures at c.loop-written-test.true in
    rw (p.1, p.2) (fault_through _ _ _ (checked_stops _ c.args.stored.now c.args.tree.now c.loop-written.written-index c.written-item.result _ _ within here c.loop-written.invariant) c.in_err-statement.ensures)

pub loop-written-preserved : goal.loop-written-preserved
loop-written-preserved g c =
    let here = rw c.as_slice-written-items.ensures at c.written-item.is in
    let within = rw c.as_slice-written-items.ensures at c.loop-written-test.true in
    checked_more _ c.args.stored.now c.args.tree.now c.loop-written.written-index c.written-item.result _ _ within here c.loop-written.invariant c.in_ok-statement.statement _ _ c.in_ok-statement.ensures c.in_ok-learn.ensures c.in_ok-push.ensures.ok
