use Rattle.std.proofs.Common.{refl}
use Rattle.lara_data.specs.KeyedTables.{all_have, AllKeys}
use Rattle.lara_assoc.proofs.assoc.Assoc.empty.Goals as goal

pub total-requires-clause-keys : goal.total-requires-clause-keys
unfolding AllKeys
total-requires-clause-keys c = rw c.new-entries.ensures tt

pub total-requires-clause-rows : goal.total-requires-clause-rows
unfolding all_have
total-requires-clause-rows c = rw c.new-entries.ensures refl
