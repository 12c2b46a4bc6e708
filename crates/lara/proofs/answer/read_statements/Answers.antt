use Rattle.std.proofs.lemmas.Result.{err_from_is_err_and}
use Rattle.lara.proofs.Scripts.{syntax_stops, types_give}
use Rattle.lara.proofs.answer.read_statements.Goals as goal

pub returns-in_err-tree-clause-gives : goal.returns-in_err-tree-clause-gives
returns-in_err-tree-clause-gives g c =
    let p = err_from_is_err_and c.from_residual.result c.from_residual.ensures.1 in
    rw (p.1, p.2) (syntax_stops _ c.args.script.now _ c.in_err-tree.ensures.gives)

pub returns-clause-gives : goal.returns-clause-gives
returns-clause-gives g c = types_give _ c.args.script.now _ c.read_types.result c.in_ok-tree.ensures.gives c.read_types.ensures.gives
