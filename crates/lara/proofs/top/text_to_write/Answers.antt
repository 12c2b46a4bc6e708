use Rattle.std.proofs.lemmas.Result.{err_from_is_err_and}
use Rattle.lara_base.specs.Causes.{Rose}
use Rattle.lara.specs.Words.{command_of}
use Rattle.lara.specs.Ruling.{call_shows}
use Rattle.lara.proofs.Reaching.{words_stop, words_answer}
use Rattle.lara.proofs.top.text_to_write.Goals as goal

pub returns-in_err-command-clause-gives : goal.returns-in_err-command-clause-gives
returns-in_err-command-clause-gives g c = λ bytes told.
    let p = err_from_is_err_and c.from_residual.result c.from_residual.ensures.1 in
    let still = Rose (g.S.Source.faults c.args.input.now) (g.S.Source.faults c.args.input.now) in
    rw (p.1, p.2) (words_stop _ bytes c.args.words.now (call_shows (command_of c.args.words.now) still ⊥) _ c.in_err-command.ensures.gives)

pub returns-clause-gives : goal.returns-clause-gives
returns-clause-gives g c = λ bytes told.
    let rose = Rose (g.S.Source.faults c.args.input.now) (g.S.Source.faults c.command_text.new.input) in
    let e = c.in_ok-command.ensures.gives in
    words_answer _ bytes c.args.words.now rose c.in_ok-command.command c.command_text.result e (c.command_text.ensures.gives bytes (λ has. told (rw e has)))
