use Rattle.std.proofs.Common.{◌∙◌}
use Rattle.lara_assoc.proofs.EachFacts.{filter_sums}
use Rattle.lara_assoc.proofs.extensions.filter_table.Goals as goal

pub of_sums-requires : goal.of_sums-requires
of_sums-requires c =
    filter_sums c.args.a.now c.args.test.now c.in_ok-ty.ty c.in_ok-sums.sums (c.in_ok-ty.ensures ∙ c.ty.ensures.columns) c.ty.ensures.typed c.in_ok-sums.ensures.types c.in_ok-sums.ensures.sums
