use Rattle.std.proofs.Common.{arith}
use Rattle.lara_types.proofs.PlacedNames.{repeated_here, repeated_on, repeated_end}
use Rattle.lara_types.proofs.agg_places.repeated.Goals as goal

pub returns-then-is_among : goal.returns-then-is_among
returns-then-is_among c = repeated_here _ _ c.loop-before.invariant.so_far c.index-names-before.result c.loop-before-test.true c.index-names-before.is _ c.refusal.ensures c.if-is_among.ensures

pub loop-before-preserved : goal.loop-before-preserved
loop-before-preserved c = record {
  within = omega (arith, c.loop-before-test.true);
  so_far = repeated_on _ _ c.loop-before.invariant.so_far c.index-names-before.result c.loop-before-test.true c.index-names-before.is c.if-is_among.ensures;
}

pub returns : goal.returns
returns c = repeated_end _ _ c.loop-before.invariant.so_far c.loop-before-test.false
