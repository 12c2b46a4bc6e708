use Rattle.std.proofs.lemmas.Result.{err_from_is_err_and}
use Rattle.lara_fields.specs.Loops.{each_more, each_ends, each_done}
use Rattle.lara_key.specs.KeyReading.{column_at, columns_at}
use Rattle.lara_key.proofs.decoding.columns_of.Goals as goal

pub returns-in_err-column : goal.returns-in_err-column
returns-in_err-column c =
    let p = err_from_is_err_and c.from_residual.result c.from_residual.ensures.1 in
    rw (p.1, p.2) (each_ends column_at c.in_err-column.field-0.0 c.loop-ty.tuple c.args.tys.now c.loop-ty.ty-index _ c.loop-ty.rest.now (columns_at c.args.tys.now c.args.bytes.now) c.loop-ty-test.true c.in_err-column.ensures c.loop-ty.invariant)

pub loop-ty-preserved : goal.loop-ty-preserved
loop-ty-preserved c =
    rw c.in_ok-push.ensures.ok (each_more column_at c.loop-ty.tuple c.args.tys.now c.loop-ty.ty-index _ c.loop-ty.rest.now c.in_ok-column.column c.in_ok-column.after.now (columns_at c.args.tys.now c.args.bytes.now) c.loop-ty-test.true c.in_ok-column.ensures c.loop-ty.invariant)

pub returns : goal.returns
returns c = each_done column_at c.loop-ty.tuple c.args.tys.now c.loop-ty.ty-index c.loop-ty.rest.now (columns_at c.args.tys.now c.args.bytes.now) c.loop-ty-test.false c.loop-ty.invariant
