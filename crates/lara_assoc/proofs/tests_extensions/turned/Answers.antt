use Rattle.std.specs.Prelude.{is_ok}
use Rattle.lara_data.specs.Names.{same_name, has, among, distinct}
use Rattle.lara_data.specs.Extensions.{new_name, renamed_columns}
use Rattle.lara_data.specs.TypeRules.{rename_type}
use Rattle.lara_assoc.proofs.tests_extensions.turned.Goals as goal

pub rename-requires : goal.rename-requires
unfolding rename_type renamed_columns new_name same_name has among distinct
rename-requires c = λ i. is_ok (rename_type (c.in_ok-a.ensures i) (c.in_ok-pairs.ensures i))
