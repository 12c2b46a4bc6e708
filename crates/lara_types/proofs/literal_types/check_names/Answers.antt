use Rattle.std.proofs.Common.{[], map}
use Rattle.std.proofs.lemmas.List.{append-nil}
use Rattle.std.proofs.lemmas.Result.{err_from_is_err_and}
use Rattle.lara_types.specs.LiteralTypes.{key_col_name, one_more_key, one_more_val}
use Rattle.lara_types.proofs.SeenNames.{holds_empty}
use Rattle.lara_types.specs.WalkLaws.{walk-none}
use Rattle.lara_types.proofs.ColumnNames.{fault_through, keys_more, keys_stop, vals_more, vals_stop, names_end, holds_key, holds_val, keys_all, vals_all}
use Rattle.lara_types.proofs.literal_types.check_names.Goals as goal

pub loop-key-init : goal.loop-key-init
loop-key-init c = record { held = holds_empty c.new-seen.result c.new-seen.ensures.empty; so_far = walk-none one_more_key [] }

pub returns-in_err-see : goal.returns-in_err-see
returns-in_err-see c =
    let p = err_from_is_err_and c.from_residual.result c.from_residual.ensures.1 in
    let here = rw c.as_slice-key-items.ensures at c.key-item.is in
    let within = rw c.as_slice-key-items.ensures at c.loop-key-test.true in
    rw (p.1, p.2) (fault_through _ _ _ (λ r e. keys_stop c.args.keys.now c.args.vals.now c.loop-key.key-index c.key-item.result r within here c.loop-key.invariant.so_far e) (c.in_err-see.ensures.gives _ c.loop-key.invariant.held))

pub loop-key-preserved : goal.loop-key-preserved
loop-key-preserved c =
    let here = rw c.as_slice-key-items.ensures at c.key-item.is in
    let within = rw c.as_slice-key-items.ensures at c.loop-key-test.true in
    record {
      held = holds_key c.args.keys.now c.args.vals.now c.loop-key.key-index c.key-item.result c.see.new.seen within here (c.in_ok-see.ensures.holds _ c.loop-key.invariant.held);
      so_far = keys_more c.args.keys.now c.args.vals.now c.loop-key.key-index c.key-item.result within here c.loop-key.invariant.so_far (c.in_ok-see.ensures.gives _ c.loop-key.invariant.held);
    }

pub loop-val-init : goal.loop-val-init
loop-val-init c =
    let past = rw c.as_slice-key-items.ensures at c.loop-key-test.false in
    let all = keys_all c.args.keys.now c.args.vals.now c.loop-key.key-index past in
    record {
      held = rw append-nil (rw all at c.loop-key.invariant.held);
      keys = rw all at c.loop-key.invariant.so_far;
      so_far = rw append-nil (walk-none one_more_val (map key_col_name c.args.keys.now));
    }

pub returns-in_err-see-2 : goal.returns-in_err-see-2
returns-in_err-see-2 c =
    let p = err_from_is_err_and c.from_residual-in_err-see-2.result c.from_residual-in_err-see-2.ensures.1 in
    let here = rw c.as_slice-val-items.ensures at c.val-item.is in
    let within = rw c.as_slice-val-items.ensures at c.loop-val-test.true in
    rw (p.1, p.2) (fault_through _ _ _ (λ r e. vals_stop c.args.keys.now c.args.vals.now c.loop-val.val-index c.val-item.result r c.loop-val.invariant.keys within here c.loop-val.invariant.so_far e) (c.in_err-see-2.ensures.gives _ c.loop-val.invariant.held))

pub loop-val-preserved : goal.loop-val-preserved
loop-val-preserved c =
    let here = rw c.as_slice-val-items.ensures at c.val-item.is in
    let within = rw c.as_slice-val-items.ensures at c.loop-val-test.true in
    record {
      held = holds_val c.args.keys.now c.args.vals.now c.loop-val.val-index c.val-item.result c.see-in-loop-val.new.seen within here (c.in_ok-see-2.ensures.holds _ c.loop-val.invariant.held);
      keys = c.loop-val.invariant.keys;
      so_far = vals_more c.args.keys.now c.args.vals.now c.loop-val.val-index c.val-item.result within here c.loop-val.invariant.so_far (c.in_ok-see-2.ensures.gives _ c.loop-val.invariant.held);
    }

pub returns : goal.returns
returns c =
    let past = rw c.as_slice-val-items.ensures at c.loop-val-test.false in
    let all = vals_all c.args.keys.now c.args.vals.now c.loop-val.val-index past in
    names_end c.args.keys.now c.args.vals.now _ c.loop-val.invariant.keys (rw all at c.loop-val.invariant.so_far)
