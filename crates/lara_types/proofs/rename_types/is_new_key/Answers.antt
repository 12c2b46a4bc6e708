use Rattle.std.proofs.Common.{sym, ◌∙◌}
use Rattle.lara_types.proofs.ListedNames.{has_new_key_name}
use Rattle.lara_types.proofs.rename_types.is_new_key.Goals as goal

pub returns : goal.returns
returns c = c.has_new_key.ensures ∙ sym (has_new_key_name c.args.pairs.now c.args.keys.now c.args.name.now)
