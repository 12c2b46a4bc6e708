use Rattle.std.proofs.Common.{◌∙◌, ap}
use Rattle.lara_data.specs.declared.order.EachOp.TheVariants.{Map}
use Rattle.lara_data.specs.TableTypes.{Columns, are_columns}
use Rattle.lara_data.specs.Extensions.{each_columns}
use Rattle.lara_assoc.proofs.EachFacts.{map_fine, map_found, map_sums}
use Rattle.lara_assoc.proofs.extensions.map_table.Goals as goal

pub map_columns-requires : goal.map_columns-requires
map_columns-requires c =
    ap (λ (t : Columns). are_columns (each_columns (Map c.args.defs.now) t).keys (each_columns (Map c.args.defs.now) t).vals) c.ty.ensures.columns ∙ map_fine c.args.a.now.ty c.args.defs.now c.requires.some c.requires.typed

pub map_sums-requires-clause-typed : goal.map_sums-requires-clause-typed
map_sums-requires-clause-typed c =
    map_found c.args.a.now.ty c.args.defs.now c.in_ok-ty.ty c.requires.typed (c.in_ok-ty.ensures ∙ ap (each_columns (Map c.args.defs.now)) c.ty.ensures.columns)

pub of_sums-requires : goal.of_sums-requires
of_sums-requires c =
    map_sums c.args.a.now c.args.defs.now c.in_ok-ty.ty c.in_ok-sums.sums (c.in_ok-ty.ensures ∙ ap (each_columns (Map c.args.defs.now)) c.ty.ensures.columns) c.ty.ensures.typed c.requires.some c.requires.typed
    c.in_ok-sums.ensures.types c.in_ok-sums.ensures.sums
