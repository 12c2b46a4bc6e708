use Rattle.std.proofs.Common.{ap}
use Rattle.std.proofs.lemmas.Result.{err_from_is_err_and}
use Rattle.lara_syntax.specs.declared.ast.AstType.{AstType}
use Rattle.lara_types.proofs.ColumnNames.{fault_through}
use Rattle.lara_types.proofs.ColumnTypes.{columns_stop, columns_made, columns_over}
use Rattle.lara_types.proofs.literal_types.literal_type.Goals as goal

pub returns-in_err-check_names : goal.returns-in_err-check_names
returns-in_err-check_names c =
    let p = err_from_is_err_and c.from_residual.result c.from_residual.ensures.1 in
    rw (p.1, p.2) (fault_through _ _ _ (λ r e. columns_stop c.args.at c.args.ty.now _ _ (ap (λ (t : AstType). t.keys) c.ty.view_is) (ap (λ (t : AstType). t.vals) c.ty.view_is) r e) c.in_err-check_names.ensures)

pub returns-in-Some : goal.returns-in-Some
returns-in-Some c =
    columns_made c.args.at c.args.ty.now _ _ (ap (λ (t : AstType). t.keys) c.ty.view_is) (ap (λ (t : AstType). t.vals) c.ty.view_is) _ c.in_ok-check_names.ensures _ _ c.in_ok-keys.ensures c.in_ok-vals.ensures c.in-Some.ty c.in-Some.ensures

pub returns-in-None : goal.returns-in-None
returns-in-None c =
    rw c.refused.ensures (columns_over c.args.at c.args.ty.now _ _ (ap (λ (t : AstType). t.keys) c.ty.view_is) (ap (λ (t : AstType). t.vals) c.ty.view_is) _ c.in_ok-check_names.ensures _ _ c.in_ok-keys.ensures c.in_ok-vals.ensures c.in-None.ensures)
