use Rattle.std.proofs.Common.{subst}
use Rattle.lara_data.specs.Denotations.{NamedTable}
use Rattle.lara_data.specs.TypedTables.{IsTypedTable}
use Rattle.lara_assoc.proofs.NewestFacts.{none_typed, typed_step, all_typed}
use Rattle.lara_assoc.proofs.named.are_typed.Goals as goal

pub loop-named-init : goal.loop-named-init
loop-named-init c = none_typed c.args.tables.now

pub loop-named-preserved : goal.loop-named-preserved
loop-named-preserved c =
    let within = rw c.as_slice-named-items.ensures at c.loop-named-test.true in
    let here = rw c.as_slice-named-items.ensures at c.named-item.is in
    let typed = subst (λ (d : NamedTable). IsTypedTable d.table) c.named.view_is c.ty-columns.ensures.typed in
    typed_step c.args.tables.now c.loop-named.named-index c.named-item.result within here c.loop-named.invariant typed

pub returns : goal.returns
returns c = all_typed c.args.tables.now c.loop-named.named-index (rw c.as_slice-named-items.ensures at c.loop-named-test.false) c.loop-named.invariant
