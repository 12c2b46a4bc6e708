use Rattle.std.proofs.lemmas.Result.{err_from_is_err_and}
use Rattle.lara_fields.specs.Loops.{each_more, each_ends, each_done}
use Rattle.lara_semiring.specs.RowReading.{value_at, values_at}
use Rattle.lara_semiring.proofs.row_decoding.values_of.Goals as goal

pub returns-in_err-value : goal.returns-in_err-value
returns-in_err-value c =
    let p = err_from_is_err_and c.from_residual.result c.from_residual.ensures.1 in
    rw (p.1, p.2) (each_ends value_at c.in_err-value.field-0.0 c.loop-ty.row c.args.tys.now c.loop-ty.ty-index _ c.loop-ty.rest.now (values_at c.args.tys.now c.args.bytes.now) c.loop-ty-test.true c.in_err-value.ensures c.loop-ty.invariant)

pub loop-ty-preserved : goal.loop-ty-preserved
loop-ty-preserved c =
    rw c.in_ok-push.ensures.ok (each_more value_at c.loop-ty.row c.args.tys.now c.loop-ty.ty-index _ c.loop-ty.rest.now c.in_ok-value.value c.in_ok-value.after.now (values_at c.args.tys.now c.args.bytes.now) c.loop-ty-test.true c.in_ok-value.ensures c.loop-ty.invariant)

pub returns : goal.returns
returns c = each_done value_at c.loop-ty.row c.args.tys.now c.loop-ty.ty-index c.loop-ty.rest.now (values_at c.args.tys.now c.args.bytes.now) c.loop-ty-test.false c.loop-ty.invariant
