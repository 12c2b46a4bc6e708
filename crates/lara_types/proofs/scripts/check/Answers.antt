use Rattle.std.proofs.Common.{sym, ◌∙◌}
use Rattle.std.proofs.lemmas.Result.{err_from_is_err_and}
use Rattle.lara_types.proofs.ColumnNames.{fault_through}
use Rattle.lara_types.proofs.FitFacts.{has_fits}
use Rattle.lara_types.specs.Found.{checked_has}
use Rattle.lara_types.specs.Only.{has_checked}
use Rattle.lara_types.specs.RefusedLaws.{script_judged, right_fault}
use Rattle.lara_types.proofs.SizeFacts.{as_many_statements, as_many_nodes}
use Rattle.lara_types.proofs.TypedFacts.{has_typed}
use Rattle.lara_types.proofs.scripts.check.Goals as goal

pub returns-in_err-statements-clause-only : goal.returns-in_err-statements-clause-only
returns-in_err-statements-clause-only g c =
    let p = err_from_is_err_and c.from_residual.result c.from_residual.ensures.1 in
    λ ss has. rw (p.1, p.2) (fault_through _ _ _ (λ r e. sym (has_checked _ c.args.stored.now c.args.tree.now ss has) ∙ e) c.in_err-statements.ensures)

pub invariant_of-result : goal.invariant_of-result
invariant_of-result g c = has_typed _ c.args.stored.now c.args.tree.now _ (rw c.as_slice.ensures at c.have_columns.ensures) (checked_has _ _ _ _ c.in_ok-statements.ensures)

pub returns-clause-found : goal.returns-clause-found
returns-clause-found g c = checked_has _ _ _ _ c.in_ok-statements.ensures

pub returns-clause-only : goal.returns-clause-only
returns-clause-only g c = λ ss has. sym (has_checked _ c.args.stored.now c.args.tree.now ss has) ∙ c.in_ok-statements.ensures

pub returns-clause-statements : goal.returns-clause-statements
returns-clause-statements g c = as_many_statements _ c.args.stored.now c.args.tree.now _ (checked_has _ _ _ _ c.in_ok-statements.ensures)

pub returns-clause-nodes : goal.returns-clause-nodes
returns-clause-nodes g c = as_many_nodes _ c.args.stored.now c.args.tree.now _ (checked_has _ _ _ _ c.in_ok-statements.ensures)

pub returns-clause-fits : goal.returns-clause-fits
returns-clause-fits g c = λ db of_stored. has_fits _ c.args.stored.now c.args.tree.now _ db of_stored (checked_has _ _ _ _ c.in_ok-statements.ensures)

pub returns-in_err-statements-clause-refused : goal.returns-in_err-statements-clause-refused
returns-in_err-statements-clause-refused g c =
    let p = err_from_is_err_and c.from_residual.result c.from_residual.ensures.1 in
    rw (p.1, p.2) (right_fault _ c.args.stored.now c.args.tree.now _ c.in_err-statements.ensures)

pub returns-in_err-statements-clause-only_refusal : goal.returns-in_err-statements-clause-only_refusal
returns-in_err-statements-clause-only_refusal g c =
    let p = err_from_is_err_and c.from_residual.result c.from_residual.ensures.1 in
    λ r why. rw (p.1, p.2) (fault_through _ _ _ (λ q e. sym (script_judged _ c.args.stored.now c.args.tree.now r why) ∙ e) c.in_err-statements.ensures)

pub returns-clause-only_refusal : goal.returns-clause-only_refusal
returns-clause-only_refusal g c = λ r why. sym (script_judged _ c.args.stored.now c.args.tree.now r why) ∙ c.in_ok-statements.ensures
