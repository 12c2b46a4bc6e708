use Rattle.std.proofs.Common.{◌≡◌, true, sym, ap, ◌∙◌}
use Rattle.lara_semiring.specs.Rows.{row_has}
use Rattle.lara_data.specs.KeyedTypes.{item_has}
use Rattle.lara_data.specs.TableTypes.{Columns, types, are_columns}
use Rattle.lara_data.specs.Tables.{table_of, table_of_permutation}
use Rattle.lara_assoc.proofs.SumFacts.{own_step, own_end}
use Rattle.lara_assoc.proofs.TableFacts.{ok_is, listed_sums}
use Rattle.lara_assoc.proofs.assoc.Assoc.total.Goals as goal

pub add-requires : goal.add-requires
add-requires c =
    let here = rw c.as_slice-entry-items.ensures at c.entry-item.is in
    let within = rw c.as_slice-entry-items.ensures at c.loop-entry-test.true in
    (λ i. row_has (c.loop-entry.invariant.types i) (c.in_ok-copy-2.ensures.same i)) ∙ item_has (types c.args.ty.now.vals) c.args.entries.now c.loop-entry.entry-index c.entry-item.result c.requires.rows within here

pub loop-entry-preserved : goal.loop-entry-preserved
loop-entry-preserved c =
    let here = rw c.as_slice-entry-items.ensures at c.entry-item.is in
    let within = rw c.as_slice-entry-items.ensures at c.loop-entry-test.true in
    own_step (types c.args.ty.now.vals) c.loop-entry.sums c.add.new.self c.args.entries.now c.loop-entry.entry-index c.entry-item.result (record { key = c.in_ok-copy.field-0; row = c.in_ok-copy-2.field-0 }) c.args.entries.now
    within here (λ i. record { key = c.in_ok-copy.ensures.same i; row = c.in_ok-copy-2.ensures.same i }) c.in_ok-add.ensures.types c.in_ok-add.ensures.sums c.loop-entry.invariant

pub of_sums-requires : goal.of_sums-requires
of_sums-requires c =
    let past = rw c.as_slice-entry-items.ensures at c.loop-entry-test.false in
    let same = own_end (types c.args.ty.now.vals) c.loop-entry.sums c.args.entries.now c.loop-entry.entry-index c.args.entries.now past c.loop-entry.invariant in
    let columns : are_columns c.args.ty.now.keys c.args.ty.now.vals ≡ true = ap (λ (t : Columns). are_columns t.keys t.vals) (sym c.ty.view_is) ∙ c.ty.invariant in
    listed_sums c.args.ty.now c.in_ok-copy-3.field-0 c.loop-entry.sums c.args.entries.now c.in_ok-copy-3.ensures columns c.requires.keys c.requires.rows c.loop-entry.invariant.types same

pub returns-clause-any_order : goal.returns-clause-any_order
returns-clause-any_order c = λ others p.
    let past = rw c.as_slice-entry-items.ensures at c.loop-entry-test.false in
    let same = own_end (types c.args.ty.now.vals) c.loop-entry.sums c.args.entries.now c.loop-entry.entry-index c.args.entries.now past c.loop-entry.invariant in
    ok_is c.of_sums.result _ _ (ap (λ (t : Columns). table_of t c.args.entries.now) c.in_ok-copy-3.ensures ∙ sym (table_of_permutation c.args.ty.now others c.args.entries.now p)) (c.of_sums.ensures c.args.entries.now same)
