use Rattle.std.proofs.Common.{ap, ◌∙◌, sym}
use Rattle.lara_data.specs.Extensions.{renamed_columns}
use Rattle.lara_data.specs.Names.{distinct}
use Rattle.lara_data.specs.TypeRules.{names_of}
use Rattle.lara_data.specs.declared.refusal.Kind.TheVariants.{NameTwice}
use Rattle.lara_data.specs.declared.node.Op.TheVariants as to
use Rattle.lara_types.specs.Answered.{answered}
use Rattle.lara_types.specs.CheckedTrees.{typed}
use Rattle.lara_types.proofs.MadeEach.{rename_node, rule_passes, rule_breaks}
use Rattle.lara_types.proofs.each_trees.rename_made.Goals as goal

pub returns-then-not-are_new_names_apart : goal.returns-then-not-are_new_names_apart
returns-then-not-are_new_names_apart c =
    let own = c.as_slice.ensures ∙ c.in_ok-pairs.ensures in
    rw c.refused.ensures (rule_breaks c.args.at NameTwice _ (rename_node c.args.at c.args.a c.args.pairs.now) (c.if-not-are_new_names_apart.ensures ∙ ap (λ ps. distinct (names_of (renamed_columns ps c.args.a.ty))) own))

pub returns : goal.returns
returns c =
    let same = c.as_slice.ensures ∙ c.in_ok-pairs.ensures in
    let own = c.as_slice-2.ensures ∙ c.in_ok-pairs.ensures in
    rule_passes c.args.at NameTwice _ (rename_node c.args.at c.args.a c.args.pairs.now) (c.if-not-are_new_names_apart.ensures ∙ ap (λ ps. distinct (names_of (renamed_columns ps c.args.a.ty))) same)
    ∙ (λ i. answered (typed (sym (c.in_ok-ty.ensures ∙ ap (λ ps. renamed_columns ps c.args.a.ty) own) i) (to.Rename (sym c.in_ok-new.ensures i) (sym c.in_ok-pairs.ensures i))))
