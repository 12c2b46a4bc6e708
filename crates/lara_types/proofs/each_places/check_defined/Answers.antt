use Rattle.lara_data.specs.TableTypes.{key_names}
use Rattle.std.proofs.lemmas.Result.{err_from_is_err_and}
use Rattle.lara_types.proofs.ColumnNames.{fault_through}
use Rattle.lara_types.proofs.SeenNames.{holds_empty}
use Rattle.lara_types.proofs.DefinedWalks.{defs_none, defs_more, defs_stop, holds_def, defs_all}
use Rattle.lara_types.proofs.each_places.check_defined.Goals as goal

pub loop-def-init : goal.loop-def-init
loop-def-init c = record { held = holds_empty c.new-seen.result c.new-seen.ensures.empty; so_far = defs_none (key_names c.args.keys.now) c.args.defs.now 0 }

pub returns-in_err-see_defined : goal.returns-in_err-see_defined
returns-in_err-see_defined c =
    let p = err_from_is_err_and c.from_residual.result c.from_residual.ensures.1 in
    rw (p.1, p.2) (fault_through _ _ _ (λ r e. defs_stop (key_names c.args.keys.now) c.args.defs.now c.loop-def.def-index c.def-item.result c.loop-def-test.true c.def-item.is c.loop-def.invariant.so_far r e) (c.in_err-see_defined.ensures.gives _ c.loop-def.invariant.held))

pub loop-def-preserved : goal.loop-def-preserved
loop-def-preserved c = record {
  held = holds_def (key_names c.args.keys.now) c.args.defs.now c.loop-def.def-index c.def-item.result c.see_defined.new.seen c.loop-def-test.true c.def-item.is (c.in_ok-see_defined.ensures.holds _ c.loop-def.invariant.held);
  so_far = defs_more (key_names c.args.keys.now) c.args.defs.now c.loop-def.def-index c.def-item.result c.loop-def-test.true c.def-item.is c.loop-def.invariant.so_far (c.in_ok-see_defined.ensures.gives _ c.loop-def.invariant.held);
}

pub returns : goal.returns
returns c = defs_all (key_names c.args.keys.now) c.args.defs.now c.loop-def.def-index c.loop-def-test.false c.loop-def.invariant.so_far
