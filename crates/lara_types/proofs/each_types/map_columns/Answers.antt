use Rattle.std.proofs.Common.{ap, ◌∙◌}
use Rattle.lara_data.specs.TableTypes.{Columns}
use Rattle.lara_types.proofs.EachTypes.{map_is, map_makes}
use Rattle.lara_types.proofs.each_types.map_columns.Goals as goal

pub invariant_of-result : goal.invariant_of-result
invariant_of-result c = map_makes c.args.a.now c.args.defs.now _ _ c.requires.some c.requires.typed (c.in_ok-keys.ensures.same ∙ ap (λ (t : Columns). t.keys) c.a.view_is) c.in_ok-vals.ensures

pub returns : goal.returns
returns c = map_is c.args.a.now c.args.defs.now _ _ (c.in_ok-keys.ensures.same ∙ ap (λ (t : Columns). t.keys) c.a.view_is) c.in_ok-vals.ensures
