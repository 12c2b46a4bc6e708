use Rattle.std.proofs.Common.{ap, ◌∙◌}
use Rattle.lara_data.specs.TableTypes.{Columns, are_columns}
use Rattle.lara_data.specs.Extensions.{renamed_columns}
use Rattle.lara_assoc.proofs.EachFacts.{rename_fine, renamed_typed, renamed_is}
use Rattle.lara_assoc.proofs.TableFacts.{ok_is}
use Rattle.lara_assoc.proofs.renames.rename.Goals as goal

pub renamed_columns-requires : goal.renamed_columns-requires
renamed_columns-requires c =
    ap (λ (t : Columns). are_columns (renamed_columns c.args.pairs.now t).keys (renamed_columns c.args.pairs.now t).vals) c.ty.ensures.columns ∙ rename_fine c.args.a.now.ty c.args.pairs.now c.ty.ensures.typed.columns c.requires

pub with_columns-requires : goal.with_columns-requires
with_columns-requires c =
    renamed_typed c.args.a.now c.args.pairs.now c.in_ok-ty.ty c.ty.ensures.typed c.requires (c.in_ok-ty.ensures ∙ ap (renamed_columns c.args.pairs.now) c.ty.ensures.columns)

pub returns : goal.returns
returns c =
    ok_is c.with_columns.result _ _ (renamed_is c.args.a.now c.args.pairs.now c.in_ok-ty.ty (c.in_ok-ty.ensures ∙ ap (renamed_columns c.args.pairs.now) c.ty.ensures.columns)) c.with_columns.ensures
