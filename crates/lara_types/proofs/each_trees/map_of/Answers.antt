use Rattle.std.proofs.lemmas.Result.{err_from_is_err_and}
use Rattle.lara_data.specs.TableTypes.{key_names}
use Rattle.lara_types.proofs.ColumnNames.{fault_through}
use Rattle.lara_types.proofs.DefinedWalks.{names_met, map_unnamed, map_broken, map_all_met, map_judged}
use Rattle.lara_types.proofs.MadeEach.{map_typed}
use Rattle.lara_types.proofs.each_trees.map_of.Goals as goal

pub returns-in_err-check_names : goal.returns-in_err-check_names
returns-in_err-check_names c =
    let p = err_from_is_err_and c.from_residual.result c.from_residual.ensures.1 in
    rw (p.1, p.2) (fault_through _ _ _ (λ r e. map_unnamed c.args.at c.args.a c.args.defs.now r e) c.in_err-check_names.ensures)

pub map_refusal-requires-clause-names : goal.map_refusal-requires-clause-names
map_refusal-requires-clause-names c = names_met (key_names c.args.a.ty.keys) c.args.defs.now _ c.in_ok-check_names.ensures

pub returns-in-Some : goal.returns-in-Some
returns-in-Some c = map_broken c.args.at c.args.a c.args.defs.now _ c.in_ok-check_names.ensures _ c.in-Some.ensures

pub map_made-requires : goal.map_made-requires
map_made-requires c = record {
  some = c.requires;
  typed = map_typed c.args.at c.args.a.ty c.args.defs.now (map_all_met c.args.at c.args.a c.args.defs.now _ c.in_ok-check_names.ensures c.in-None.ensures);
}

pub returns-in-None : goal.returns-in-None
returns-in-None c = map_judged c.args.at c.args.a c.args.defs.now _ c.in_ok-check_names.ensures _ c.in-None.ensures c.map_made.ensures
