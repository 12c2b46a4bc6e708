use Rattle.std.proofs.lemmas.Result.{err_from_is_err_and}
use Rattle.lara_data.specs.declared.node.Op.TheVariants as to
use Rattle.lara_data.specs.declared.refusal.Kind.TheVariants.{NoName}
use Rattle.lara_data.specs.TypedTrees.{type_named}
use Rattle.lara_types.specs.CheckedTrees.{typed, columns_in}
use Rattle.lara_types.specs.NodeRules.{known_rules}
use Rattle.lara_types.specs.RuleLaws.{rules_stop}
use Rattle.lara_types.proofs.ColumnNames.{fault_through}
use Rattle.lara_types.proofs.MadeNodes.{known_made}
use Rattle.lara_types.proofs.trees.named_of.Goals as goal

pub returns-in_err-known_type : goal.returns-in_err-known_type
returns-in_err-known_type c =
    let found = type_named c.args.name.now.name c.args.known.now in
    let p = err_from_is_err_and c.from_residual.result c.from_residual.ensures.1 in
    rw (p.1, p.2) (fault_through _ _ _ (λ r e. rules_stop (known_rules NoName c.args.name.now found) (columns_in found) (typed (columns_in found) (to.Named c.args.name.now.name)) r e) c.in_err-known_type.ensures.gives)

pub returns : goal.returns
returns c =
    let made = known_made NoName c.args.name.now (type_named c.args.name.now.name c.args.known.now) (to.Named c.args.name.now.name) _ c.in_ok-known_type.ensures.gives in
    rw (c.in_ok-ty.ensures, c.in_ok-copy.ensures) made
