use Rattle.std.proofs.Common.{◌∙◌}
use Rattle.lara_types.proofs.SeenNames.{holds_one_more}
use Rattle.lara_types.proofs.literal_types.see.Goals as goal

pub returns-then-branch-clause-holds : goal.returns-then-branch-clause-holds
returns-then-branch-clause-holds c = λ names held. holds_one_more _ _ names _ _ (c.in_ok-bytes.ensures.same ∙ c.bytes.ensures.value) held c.in_ok-insert.ensures.updates
