use Rattle.std.specs.Prelude.{List}
use Rattle.std.proofs.lemmas.Result.{err_from_is_err_and}
use Rattle.lara.proofs.Scripts.{reading_stopped, answers_give}
use Rattle.lara.proofs.answer.answer.Goals as goal

pub returns-in_err-script-clause-gives : goal.returns-in_err-script-clause-gives
returns-in_err-script-clause-gives g c =
    let p = err_from_is_err_and c.from_residual.result c.from_residual.ensures.1 in
    rw (p.1, p.2) (reading_stopped _ c.args.script.now _ c.in_err-script.ensures.gives)

pub returns-clause-gives : goal.returns-clause-gives
returns-clause-gives g c = answers_give _ c.args.script.now _ c.text_in_range.result c.in_ok-script.ensures.gives (rw c.in_ok-answers.ensures.means at c.text_in_range.ensures.gives)
