use Rattle.std.specs.Prelude.{is_ok}
use Rattle.lara_data.specs.TypeRules.{join_type, types_differ, too_many}
use Rattle.lara_data.specs.Names.{has, same_name}
use Rattle.lara_data.specs.Vals.{has_col, same_col}
use Rattle.lara_assoc.proofs.tests.product.Goals as goal

pub join-requires : goal.join-requires
unfolding join_type types_differ too_many has same_name has_col same_col
join-requires c = λ i. is_ok (join_type (c.in_ok-a.ensures i) (c.in_ok-b.ensures i))
