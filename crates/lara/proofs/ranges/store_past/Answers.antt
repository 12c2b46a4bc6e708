use Rattle.std.specs.Prelude.{◌≡◌, Some}
use Rattle.std.proofs.Common.{sym, ap, subst, ◌∙◌}
use Rattle.lara_data.specs.Denotations.{Stored}
use Rattle.lara_data.specs.Tables.{is_in_range}
use Rattle.lara.specs.Ranges.{store_past}
use Rattle.lara.proofs.RangeFacts.{none_past, past_more, past_here}
use Rattle.lara.proofs.ranges.store_past.Goals as goal

pub loop-store-init : goal.loop-store-init
loop-store-init c = none_past (λ (x : Stored). x.table) (λ x. x.statement) c.args.stores.now

pub returns-then-not-is_in_range : goal.returns-then-not-is_in_range
returns-then-not-is_in_range c =
    let xs = c.args.stores.now in
    let within = rw c.as_slice-store-items.ensures at c.loop-store-test.true in
    let here = rw c.as_slice-store-items.ensures at c.store-item.is in
    let over = ap (λ (x : Stored). is_in_range x.table) (sym c.store.view_is) ∙ sym c.if-not-is_in_range.ensures in
    subst (λ (x : Stored). Some x.statement ≡ store_past xs) (sym c.store.view_is) (sym (past_here (λ (x : Stored). x.table) (λ x. x.statement) xs c.loop-store.store-index c.store-item.result within here c.loop-store.invariant over))

pub loop-store-preserved : goal.loop-store-preserved
loop-store-preserved c =
    let xs = c.args.stores.now in
    let within = rw c.as_slice-store-items.ensures at c.loop-store-test.true in
    let here = rw c.as_slice-store-items.ensures at c.store-item.is in
    past_more (λ (x : Stored). x.table) (λ x. x.statement) xs c.loop-store.store-index c.store-item.result within here c.loop-store.invariant (ap (λ (x : Stored). is_in_range x.table) (sym c.store.view_is) ∙ sym c.if-not-is_in_range.ensures)
