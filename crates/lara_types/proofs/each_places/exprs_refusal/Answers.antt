use Rattle.std.proofs.Common.{sym}
use Rattle.lara_types.proofs.EachPlaces.{def_rules, exprs_none, exprs_more}
use Rattle.lara_types.specs.EachRules.{exprs_rules}
use Rattle.lara_types.proofs.EachWalks.{one_here, one_on, ones_end}
use Rattle.lara_types.proofs.each_places.exprs_refusal.Goals as goal

pub returns-in-Some : goal.returns-in-Some
returns-in-Some c =
    let t = c.args.ty.now in
    one_here (def_rules t) (exprs_rules t) (exprs_none t) (exprs_more t) c.args.defs.now _ c.loop-def.invariant c.def-item.result c.loop-def-test.true c.def-item.is _ (sym c.in-Some.ensures)

pub loop-def-preserved : goal.loop-def-preserved
loop-def-preserved c =
    let t = c.args.ty.now in
    one_on (def_rules t) (exprs_rules t) (exprs_none t) (exprs_more t) c.args.defs.now _ c.loop-def.invariant c.def-item.result c.loop-def-test.true c.def-item.is (sym c.in_default.ensures)

pub returns : goal.returns
returns c =
    let t = c.args.ty.now in
    ones_end (def_rules t) (exprs_rules t) (exprs_none t) (exprs_more t) c.args.defs.now _ c.loop-def.invariant c.loop-def-test.false
