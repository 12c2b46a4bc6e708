use Rattle.std.proofs.Common.{refl}
use Rattle.lara_base.specs.Causes.{Rose}
use Rattle.lara.specs.Words.{command_of}
use Rattle.lara.specs.Ruling.{call_shows}
use Rattle.lara.proofs.Chains.{stopped_more}
use Rattle.lara.proofs.Ends.{tells_done, tells_failed, tells_stopped, output_shows_more}
use Rattle.lara.proofs.top.run.Goals as goal

pub returns-in-Ok-write_whole-clause-tells : goal.returns-in-Ok-write_whole-clause-tells
returns-in-Ok-write_whole-clause-tells g c = λ bytes told.
    tells_done _ _ _ _ _ (c.in-Ok.ensures.gives bytes told) (rw c.as_slice.ensures at c.write_whole.ensures.part) (rw c.as_slice.ensures at c.in-Ok-write_whole.ensures.whole)

pub returns-in-Ok-write_whole-clause-answered : goal.returns-in-Ok-write_whole-clause-answered
returns-in-Ok-write_whole-clause-answered g c = λ bytes told which. rw (c.in-Ok.ensures.gives bytes told) refl

pub returns-in-Ok-clause-tells : goal.returns-in-Ok-clause-tells
returns-in-Ok-clause-tells g c = λ bytes told.
    tells_failed _ _ _ _ _ (c.in-Ok.ensures.gives bytes told) c.in-Err-write_whole.ensures.cause.failed (rw c.as_slice.ensures at c.write_whole.ensures.part)

pub returns-in-Ok-clause-answered : goal.returns-in-Ok-clause-answered
returns-in-Ok-clause-answered g c = λ bytes told which. rw (c.in-Ok.ensures.gives bytes told) refl

pub returns-clause-tells : goal.returns-clause-tells
returns-clause-tells g c = λ bytes told.
    let command = command_of c.args.words.now in
    let source_rose = Rose (g.S.Source.faults c.args.input.now) (g.S.Source.faults c.text_to_write.new.input) in
    let sink_rose = Rose (g.O.Sink.faults c.args.out.now) (g.O.Sink.faults c.args.out.now) in
    tells_stopped (call_shows command source_rose sink_rose) _ c.in-Err.outcome _ (stopped_more (call_shows command source_rose ⊥) (call_shows command source_rose sink_rose) _ c.in-Err.outcome (output_shows_more command source_rose sink_rose) (c.in-Err.ensures.gives bytes told))
