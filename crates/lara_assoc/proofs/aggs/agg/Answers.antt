use Rattle.std.proofs.Common.{ap, ◌∙◌}
use Rattle.lara_data.specs.TableTypes.{Columns, are_columns}
use Rattle.lara_data.specs.Algebra.{agg_columns}
use Rattle.lara_assoc.proofs.RuleFacts.{agg_fine, agg_sums}
use Rattle.lara_assoc.proofs.TableFacts.{ok_is, agg_is}
use Rattle.lara_assoc.proofs.aggs.agg.Goals as goal

pub agg_columns-requires : goal.agg_columns-requires
agg_columns-requires c =
    ap (λ (t : Columns). are_columns (agg_columns t c.args.keys.now).keys (agg_columns t c.args.keys.now).vals) c.ty.ensures.columns
    ∙ agg_fine c.args.a.now.ty c.args.keys.now c.ty.ensures.typed.columns c.requires

pub of_sums-requires : goal.of_sums-requires
of_sums-requires c =
    agg_sums c.args.a.now c.in_ok-ty.ty c.args.keys.now c.in_ok-sums.sums (c.in_ok-ty.ensures ∙ ap (λ (t : Columns). agg_columns t c.args.keys.now) c.ty.ensures.columns) c.ty.ensures.typed c.requires
    c.in_ok-sums.ensures.types c.in_ok-sums.ensures.sums

pub returns : goal.returns
returns c =
    ok_is c.of_sums.result _ _ (agg_is c.args.a.now c.args.keys.now c.in_ok-ty.ty (c.in_ok-ty.ensures ∙ ap (λ (t : Columns). agg_columns t c.args.keys.now) c.ty.ensures.columns)) (c.of_sums.ensures _ c.in_ok-sums.ensures.sums)
