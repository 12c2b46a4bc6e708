use Rattle.std.specs.Prelude.{is_ok}
use Rattle.lara_data.specs.TypeRules.{agg_type}
use Rattle.lara_data.specs.Names.{has, same_name, among, distinct}
use Rattle.lara_assoc.proofs.tests.summed.Goals as goal

pub agg-requires : goal.agg-requires
unfolding agg_type among distinct has same_name
agg-requires c = λ i. is_ok (agg_type (c.in_ok-all.ensures i) (c.in_ok-names.ensures i))
