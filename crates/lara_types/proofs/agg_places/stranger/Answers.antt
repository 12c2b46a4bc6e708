use Rattle.lara_types.proofs.PlacedNames.{stranger_here, stranger_on, stranger_end}
use Rattle.lara_types.proofs.agg_places.stranger.Goals as goal

pub returns-then-not-is_key_name : goal.returns-then-not-is_key_name
returns-then-not-is_key_name c = stranger_here _ _ _ c.loop-name.invariant c.name-item.result c.loop-name-test.true c.name-item.is _ c.refusal.ensures c.if-not-is_key_name.ensures

pub loop-name-preserved : goal.loop-name-preserved
loop-name-preserved c = stranger_on _ _ _ c.loop-name.invariant c.name-item.result c.loop-name-test.true c.name-item.is c.if-not-is_key_name.ensures

pub returns : goal.returns
returns c = stranger_end _ _ _ c.loop-name.invariant c.loop-name-test.false
