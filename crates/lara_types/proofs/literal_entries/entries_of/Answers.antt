use Rattle.std.proofs.Common.{List}
use Rattle.lara_key.specs.declared.key.KeyVal.{KeyVal}
use Rattle.std.proofs.lemmas.Result.{err_from_is_err_and}
use Rattle.lara_data.specs.TableTypes.{types}
use Rattle.lara_data.specs.KeyedTypes.{all_have_none, all_have_push}
use Rattle.lara_types.proofs.ColumnNames.{fault_through}
use Rattle.lara_types.proofs.EntryValues.{entries_none, entries_more, entries_stop}
use Rattle.lara_types.proofs.literal_entries.entries_of.Goals as goal

pub loop-entry-init : goal.loop-entry-init
loop-entry-init c = record {
  so_far = rw c.new-read.ensures (entries_none c.args.ty.now);
  typed = rw c.new-read.ensures (all_have_none (List KeyVal) (types c.args.ty.now.vals));
}

pub returns-in_err-entry_of-clause-gives : goal.returns-in_err-entry_of-clause-gives
returns-in_err-entry_of-clause-gives c =
    let p = err_from_is_err_and c.from_residual.result c.from_residual.ensures.1 in
    let here = rw c.as_slice-entry-items.ensures at c.entry-item.is in
    let within = rw c.as_slice-entry-items.ensures at c.loop-entry-test.true in
    rw (p.1, p.2) (fault_through _ _ _ (λ r e. entries_stop c.args.ty.now c.args.entries.now c.loop-entry.entry-index c.entry-item.result c.loop-entry.read within here c.loop-entry.invariant.so_far r e) c.in_err-entry_of.ensures.gives)

pub loop-entry-preserved : goal.loop-entry-preserved
loop-entry-preserved c =
    let here = rw c.as_slice-entry-items.ensures at c.entry-item.is in
    let within = rw c.as_slice-entry-items.ensures at c.loop-entry-test.true in
    record {
      so_far = rw c.in_ok-push.ensures.ok (entries_more c.args.ty.now c.args.entries.now c.loop-entry.entry-index c.entry-item.result c.loop-entry.read within here c.loop-entry.invariant.so_far c.in_ok-entry_of.field-0 c.in_ok-entry_of.ensures.gives);
      typed = rw c.in_ok-push.ensures.ok (all_have_push (types c.args.ty.now.vals) c.loop-entry.read c.in_ok-entry_of.field-0 c.loop-entry.invariant.typed c.in_ok-entry_of.ensures.typed);
    }
