use Rattle.std.proofs.Common.{sym, ◌∙◌}
use Rattle.lara_types.proofs.ListedNames.{has_new_val_name}
use Rattle.lara_types.proofs.rename_types.is_new_val.Goals as goal

pub returns : goal.returns
returns c = c.has_new_val.ensures ∙ sym (has_new_val_name c.args.pairs.now c.args.vals.now c.args.name.now)
