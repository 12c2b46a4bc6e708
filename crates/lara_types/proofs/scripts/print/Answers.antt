use Rattle.std.proofs.lemmas.Result.{err_from_is_err_and}
use Rattle.lara_data.specs.TypedTrees.{type_named}
use Rattle.lara_types.proofs.ColumnNames.{fault_through}
use Rattle.lara_types.proofs.MadeNodes.{print_unknown, print_made, print_stop}
use Rattle.lara_types.proofs.scripts.print.Goals as goal

pub returns-in_err-ty : goal.returns-in_err-ty
returns-in_err-ty c =
    let p = err_from_is_err_and c.from_residual.result c.from_residual.ensures.1 in
    rw (p.1, p.2) (fault_through _ _ _ (λ r e. print_unknown c.args.name.now (type_named c.args.name.now.name c.args.known.now) c.args.by.now r e) c.in_err-ty.ensures.gives)

pub returns-in_err-order : goal.returns-in_err-order
returns-in_err-order c =
    let p = err_from_is_err_and c.from_residual-in_err-order.result c.from_residual-in_err-order.ensures.1 in
    rw (p.1, p.2) (fault_through _ _ _ (λ r e. print_stop c.args.name.now (type_named c.args.name.now.name c.args.known.now) c.args.by.now _ c.in_ok-ty.ensures.gives r e) c.in_err-order.ensures)

pub returns : goal.returns
returns c =
    let made = print_made c.args.name.now (type_named c.args.name.now.name c.args.known.now) c.args.by.now _ c.in_ok-ty.ensures.gives _ c.in_ok-order.ensures in
    rw c.in_ok-copy.ensures made
