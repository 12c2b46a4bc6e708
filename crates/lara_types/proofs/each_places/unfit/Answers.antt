use Rattle.lara_types.proofs.EachPlaces.{fit_rule, fit_none, fit_more, unfit_here, fit_here}
use Rattle.lara_types.specs.EachRules.{fit_rules}
use Rattle.lara_types.proofs.EachWalks.{one_here, one_on, ones_end}
use Rattle.lara_types.proofs.each_places.unfit.Goals as goal

pub returns-then-not-is_fit : goal.returns-then-not-is_fit
returns-then-not-is_fit c =
    let t = c.args.ty.now in
    one_here (fit_rule t) (fit_rules t) (fit_none t) (fit_more t) c.args.defs.now _ c.loop-def.invariant c.def-item.result c.loop-def-test.true c.def-item.is _ (unfit_here t c.def-item.result _ _ c.if-not-is_fit.ensures c.first_word.ensures c.refusal.ensures)

pub loop-def-preserved : goal.loop-def-preserved
loop-def-preserved c =
    let t = c.args.ty.now in
    one_on (fit_rule t) (fit_rules t) (fit_none t) (fit_more t) c.args.defs.now _ c.loop-def.invariant c.def-item.result c.loop-def-test.true c.def-item.is (fit_here t c.def-item.result c.if-not-is_fit.ensures)

pub returns : goal.returns
returns c =
    let t = c.args.ty.now in
    ones_end (fit_rule t) (fit_rules t) (fit_none t) (fit_more t) c.args.defs.now _ c.loop-def.invariant c.loop-def-test.false
