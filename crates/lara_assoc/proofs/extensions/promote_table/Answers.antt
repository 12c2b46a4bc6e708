use Rattle.std.proofs.Common.{◌∙◌, ap}
use Rattle.lara_data.specs.declared.order.EachOp.TheVariants.{Promote}
use Rattle.lara_data.specs.TableTypes.{Columns, are_columns}
use Rattle.lara_data.specs.Extensions.{each_columns}
use Rattle.lara_assoc.proofs.EachFacts.{promote_fine, promote_sums}
use Rattle.lara_assoc.proofs.extensions.promote_table.Goals as goal

pub promote_columns-requires : goal.promote_columns-requires
promote_columns-requires c =
    ap (λ (t : Columns). are_columns (each_columns (Promote c.args.def.now) t).keys (each_columns (Promote c.args.def.now) t).vals) c.ty.ensures.columns
    ∙ promote_fine c.args.a.now.ty c.args.def.now c.ty.ensures.typed.columns c.requires

pub of_sums-requires : goal.of_sums-requires
of_sums-requires c =
    promote_sums c.args.a.now c.args.def.now c.in_ok-ty.ty c.in_ok-sums.sums (c.in_ok-ty.ensures ∙ ap (each_columns (Promote c.args.def.now)) c.ty.ensures.columns) c.ty.ensures.typed c.requires c.in_ok-sums.ensures.types
    c.in_ok-sums.ensures.sums
