use Rattle.std.proofs.lemmas.Result.{err_from_is_err_and}
use Rattle.lara_types.proofs.ColumnNames.{fault_through}
use Rattle.lara_types.proofs.MadeNodes.{literal_unnamed, literal_made, literal_stop}
use Rattle.lara_types.proofs.trees.literal_of.Goals as goal

pub returns-in_err-ty : goal.returns-in_err-ty
returns-in_err-ty c =
    let p = err_from_is_err_and c.from_residual.result c.from_residual.ensures.1 in
    rw (p.1, p.2) (fault_through _ _ _ (λ r e. literal_unnamed c.args.at c.args.ty.now c.args.entries.now r e) c.in_err-ty.ensures)

pub returns-in_err-entries : goal.returns-in_err-entries
returns-in_err-entries c =
    let p = err_from_is_err_and c.from_residual-in_err-entries.result c.from_residual-in_err-entries.ensures.1 in
    rw (p.1, p.2) (fault_through _ _ _ (λ r e. literal_stop c.args.at c.args.ty.now c.args.entries.now _ c.in_ok-ty.ensures r e) c.in_err-entries.ensures.gives)

pub returns : goal.returns
returns c = literal_made c.args.at c.args.ty.now c.args.entries.now _ c.in_ok-ty.ensures _ c.in_ok-entries.ensures.gives
