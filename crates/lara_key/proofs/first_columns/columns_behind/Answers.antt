use Rattle.std.proofs.Common.{take, []}
use Rattle.lara_fields.specs.Loops.{behind_more, behind_ends, behind_done}
use Rattle.lara_fields.specs.Skipping.{behind}
use Rattle.lara_key.specs.declared.key.KeyType.TheVariants as ty
use Rattle.lara_key.specs.KeyReading.{column_at, columns_at}
use Rattle.lara_key.proofs.first_columns.columns_behind.Goals as goal

pub returns-in_err-rest : goal.returns-in_err-rest
returns-in_err-rest c = rw c.from_residual.ensures (behind_ends column_at (take c.args.columns c.args.tys.now) c.loop-ty.ty-index _ c.loop-ty.rest.now [] (behind (columns_at (take c.args.columns c.args.tys.now) c.args.bytes.now)) c.loop-ty-test.true c.in_err-rest.ensures c.loop-ty.invariant)

pub loop-ty-preserved : goal.loop-ty-preserved
loop-ty-preserved c = behind_more column_at (take c.args.columns c.args.tys.now) c.loop-ty.ty-index _ c.loop-ty.rest.now c.in_ok-rest.rest.now (behind (columns_at (take c.args.columns c.args.tys.now) c.args.bytes.now)) c.loop-ty-test.true c.in_ok-rest.ensures c.loop-ty.invariant

pub returns : goal.returns
returns c = behind_done column_at (take c.args.columns c.args.tys.now) c.loop-ty.ty-index ty.Nat c.loop-ty.rest.now [] (behind (columns_at (take c.args.columns c.args.tys.now) c.args.bytes.now)) c.loop-ty-test.false c.loop-ty.invariant
