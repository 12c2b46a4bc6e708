use Rattle.std.specs.Prelude.{is_ok}
use Rattle.lara_data.specs.TypeRules.{union_type, types_differ, too_many}
use Rattle.lara_data.specs.Names.{has, same_name}
use Rattle.lara_data.specs.Vals.{has_col, same_col}
use Rattle.lara.proofs.tests_random.united.Goals as goal

pub union-requires : goal.union-requires
unfolding union_type types_differ too_many has same_name has_col same_col
union-requires c = λ i. is_ok (union_type (c.in_ok-a.ensures i) (c.in_ok-b.ensures i))
