use Rattle.lara_types.proofs.MadeEach.{rename_stranger, rename_repeated, rename_judged}
use Rattle.lara_types.proofs.each_trees.rename_of.Goals as goal

pub returns-in-Some : goal.returns-in-Some
returns-in-Some c = rename_stranger c.args.at c.args.a c.args.pairs.now _ c.in-Some.ensures

pub returns-in-Some-repeated : goal.returns-in-Some-repeated
returns-in-Some-repeated c = rename_repeated c.args.at c.args.a c.args.pairs.now c.in_default.ensures _ c.in-Some-repeated.ensures

pub returns : goal.returns
returns c = rename_judged c.args.at c.args.a c.args.pairs.now c.in_default.ensures _ c.in_default-repeated.ensures c.rename_made.ensures
