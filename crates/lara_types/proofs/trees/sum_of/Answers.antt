use Rattle.std.proofs.Common.{sym, ap, ◌∙◌}
use Rattle.lara_data.specs.Names.{among, distinct}
use Rattle.lara_data.specs.TableTypes.{key_names}
use Rattle.lara_types.specs.Answered.{ok_is}
use Rattle.lara_types.specs.Written.{plain}
use Rattle.lara_types.specs.NodeRuleLaws.{agg_met}
use Rattle.lara_types.specs.NodeRules.{agg_rules}
use Rattle.lara_types.specs.RuleLaws.{all_met}
use Rattle.lara_types.proofs.trees.sum_of.Goals as goal

pub agg_type-requires-clause-keys : goal.agg_type-requires-clause-keys
agg_type-requires-clause-keys c =
    let met = agg_met c.args.a.ty c.args.keys.now (all_met (agg_rules c.args.a.ty c.args.keys.now) c.requires) in
    let own = ok_is (plain c.args.keys.now) c.in_ok-keys.keys c.in_ok-keys.ensures in
    ap (among (key_names c.args.a.ty.keys)) (sym own) ∙ met.keys

pub agg_type-requires-clause-once : goal.agg_type-requires-clause-once
agg_type-requires-clause-once c =
    let met = agg_met c.args.a.ty c.args.keys.now (all_met (agg_rules c.args.a.ty c.args.keys.now) c.requires) in
    let own = ok_is (plain c.args.keys.now) c.in_ok-keys.keys c.in_ok-keys.ensures in
    ap distinct (sym own) ∙ met.once
