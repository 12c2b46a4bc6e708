use Rattle.std.proofs.Common.{ap, ◌∙◌}
use Rattle.lara_data.specs.TableTypes.{Columns}
use Rattle.lara_types.proofs.ListedNames.{apart_by}
use Rattle.lara_types.proofs.rename_types.are_new_names_apart.Goals as goal

pub returns : goal.returns
returns c = apart_by c.args.pairs.now c.args.ty.now _ _ _ (c.as_slice.ensures ∙ ap (λ (t : Columns). t.keys) c.ty.view_is) (c.as_slice-2.ensures ∙ ap (λ (t : Columns). t.vals) c.ty.view_is) c.are_apart.ensures
