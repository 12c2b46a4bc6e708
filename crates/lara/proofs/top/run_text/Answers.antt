use Rattle.std.proofs.lemmas.Result.{err_from_is_err_and}
use Rattle.lara_base.specs.Causes.{Rose}
use Rattle.lara.proofs.Reaching.{reading_stops, reading_answers}
use Rattle.lara.proofs.top.run_text.Goals as goal

pub returns-in_err-script-clause-gives : goal.returns-in_err-script-clause-gives
returns-in_err-script-clause-gives g c = λ bytes told.
    let p = err_from_is_err_and c.from_residual.result c.from_residual.ensures.1 in
    rw (p.1, p.2) (reading_stops _ bytes _ _ (c.in_err-script.ensures.gives bytes told))

pub returns-clause-gives : goal.returns-clause-gives
returns-clause-gives g c = λ bytes told.
    reading_answers _ bytes _ _ c.answer.result (c.in_ok-script.ensures.gives bytes told) (rw c.as_slice.ensures at c.answer.ensures.gives)
