use Rattle.std.proofs.Common.{arith}
use Rattle.lara_types.proofs.EachPlaces.{old_again, old_new, old_end}
use Rattle.lara_types.proofs.each_places.repeated.Goals as goal

pub returns-then-is_old : goal.returns-then-is_old
returns-then-is_old c = old_again _ _ c.loop-before.invariant.so_far c.index-pairs-before.result c.loop-before-test.true c.index-pairs-before.is _ c.refusal.ensures c.if-is_old.ensures

pub loop-before-preserved : goal.loop-before-preserved
loop-before-preserved c = record {
  within = omega (arith, c.loop-before-test.true);
  so_far = old_new _ _ c.loop-before.invariant.so_far c.index-pairs-before.result c.loop-before-test.true c.index-pairs-before.is c.if-is_old.ensures;
}

pub returns : goal.returns
returns c = old_end _ _ c.loop-before.invariant.so_far c.loop-before-test.false
