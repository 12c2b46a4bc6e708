use Rattle.lara_types.proofs.EachPlaces.{old_rule, old_rules, old_none, old_more, old_stranger, old_column}
use Rattle.lara_types.proofs.EachWalks.{one_here, one_on, ones_end}
use Rattle.lara_types.proofs.each_places.stranger.Goals as goal

pub returns-then-not-is_column_name : goal.returns-then-not-is_column_name
returns-then-not-is_column_name c =
    let t = c.args.ty.now in
    one_here (old_rule t) (old_rules t) (old_none t) (old_more t) c.args.pairs.now _ c.loop-pair.invariant c.pair-item.result c.loop-pair-test.true c.pair-item.is _ (old_stranger t c.pair-item.result _ c.if-not-is_column_name.ensures c.refusal.ensures)

pub loop-pair-preserved : goal.loop-pair-preserved
loop-pair-preserved c =
    let t = c.args.ty.now in
    one_on (old_rule t) (old_rules t) (old_none t) (old_more t) c.args.pairs.now _ c.loop-pair.invariant c.pair-item.result c.loop-pair-test.true c.pair-item.is (old_column t c.pair-item.result c.if-not-is_column_name.ensures)

pub returns : goal.returns
returns c =
    let t = c.args.ty.now in
    ones_end (old_rule t) (old_rules t) (old_none t) (old_more t) c.args.pairs.now _ c.loop-pair.invariant c.loop-pair-test.false
