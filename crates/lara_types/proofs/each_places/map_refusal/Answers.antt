use Rattle.lara_types.proofs.DefinedWalks.{after_exprs, after_fits, after_wide, after_met}
use Rattle.lara_types.proofs.each_places.map_refusal.Goals as goal

pub returns-in-Some : goal.returns-in-Some
returns-in-Some c = after_exprs c.args.at c.args.ty.now c.args.defs.now _ c.in-Some.ensures

pub returns-in-Some-unfit : goal.returns-in-Some-unfit
returns-in-Some-unfit c = after_fits c.args.at c.args.ty.now c.args.defs.now c.in_default.ensures _ c.in-Some-unfit.ensures

pub returns-then-is_wide : goal.returns-then-is_wide
returns-then-is_wide c = after_wide c.args.at c.args.ty.now c.args.defs.now c.in_default.ensures c.in_default-unfit.ensures _ c.if-is_wide.ensures c.refusal.ensures

pub returns : goal.returns
returns c = after_met c.args.at c.args.ty.now c.args.defs.now c.in_default.ensures c.in_default-unfit.ensures c.if-is_wide.ensures
