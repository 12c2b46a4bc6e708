use Rattle.std.specs.Prelude.{is_ok}
use Rattle.lara_data.specs.TypeRules.{agg_type}
use Rattle.lara_data.specs.Names.{has, same_name, among, distinct}
use Rattle.lara.proofs.tests_random.summed.Goals as goal

pub agg-requires : goal.agg-requires
unfolding agg_type among distinct has same_name
agg-requires c = λ i. is_ok (agg_type (c.in_ok-a.ensures i) (c.in_ok-keys.ensures i))
