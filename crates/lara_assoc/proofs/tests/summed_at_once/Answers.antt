use Rattle.std.specs.Prelude.{is_ok}
use Rattle.lara_data.specs.Algebra.{join_columns}
use Rattle.lara_data.specs.TypeRules.{join_type, agg_type, types_differ, too_many}
use Rattle.lara_data.specs.Names.{has, same_name, among, distinct}
use Rattle.lara_data.specs.Vals.{has_col, same_col}
use Rattle.lara_assoc.proofs.tests.summed_at_once.Goals as goal

pub agg_of_join-requires-clause-joined : goal.agg_of_join-requires-clause-joined
unfolding join_type types_differ too_many has same_name has_col same_col
agg_of_join-requires-clause-joined c = λ i. is_ok (join_type (c.in_ok-a.ensures i) (c.in_ok-b.ensures i))

pub agg_of_join-requires-clause-summed : goal.agg_of_join-requires-clause-summed
unfolding agg_type among distinct has same_name
agg_of_join-requires-clause-summed c = λ i. is_ok (agg_type (join_columns (c.in_ok-a.ensures i) (c.in_ok-b.ensures i)) (c.in_ok-names.ensures i))
