use Rattle.lara_types.proofs.ListedNames.{old_names_among}
use Rattle.std.proofs.Common.{sym, ◌∙◌}
use Rattle.lara_types.proofs.EachTypes.{rename_unknown, rename_old_twice, rename_new_twice, rename_met_all}
use Rattle.lara_types.proofs.rename_types.rename_fault.Goals.{then-not-are_once-via-then-not-are_once, then-not-are_once-via-else-not-are_once+then-not-are_new_names_apart}
use Rattle.lara_types.proofs.rename_types.rename_fault.Goals as goal

pub returns-then-not-have_columns : goal.returns-then-not-have_columns
returns-then-not-have_columns c = rename_unknown _ _ (c.if-not-have_columns.ensures ∙ sym (old_names_among _ c.args.pairs.now))

pub returns-then-not-are_once : goal.returns-then-not-are_once
returns-then-not-are_once c =
    let known = c.if-not-have_columns.ensures ∙ sym (old_names_among _ c.args.pairs.now) in
    elim c.then-not-are_once.branch [
      | then-not-are_once-via-then-not-are_once w ↦ rename_old_twice _ _ known w.if-not-are_once.ensures
      | then-not-are_once-via-else-not-are_once+then-not-are_new_names_apart w ↦ rename_new_twice _ _ known w.if-not-are_once.ensures w.if-not-are_new_names_apart.ensures
    ]

pub returns : goal.returns
returns c = rename_met_all _ _ (c.if-not-have_columns.ensures ∙ sym (old_names_among _ c.args.pairs.now)) c.if-not-are_once.ensures c.if-not-are_new_names_apart.ensures
