use Rattle.std.proofs.Common.{inl, inr}
use Rattle.lara_base.specs.Causes.{Rose}
use Rattle.lara.specs.declared.outcome.Outcome.TheVariants.{Script, Range}
use Rattle.lara.specs.Words.{command_of}
use Rattle.lara.proofs.Ends.{tells_exactly, tells_text, tells_source, complete}
use Rattle.lara.proofs.RunLaws.{run_tells}
use Rattle.lara.proofs.top.lara.Goals as goal

pub returns-then-ne-clause-other_front : goal.returns-then-ne-clause-other_front
returns-then-ne-clause-other_front g c = λ bytes told. (c.run-outcome.ensures.tells bytes told).front

pub returns-then-ne-clause-refusals : goal.returns-then-ne-clause-refusals
returns-then-ne-clause-refusals g c = λ refusal is bytes told. tells_exactly _ _ _ _ _ (c.run-outcome.ensures.tells bytes told) refusal is

pub returns-then-ne-clause-script : goal.returns-then-ne-clause-script
returns-then-ne-clause-script g c = λ at kind bytes told. tells_exactly _ _ _ _ _ (c.run-outcome.ensures.tells bytes told) (Script at kind) tt

pub returns-then-ne-clause-range : goal.returns-then-ne-clause-range
returns-then-ne-clause-range g c = λ statement bytes told. tells_exactly _ _ _ _ _ (c.run-outcome.ensures.tells bytes told) (Range statement) tt

pub returns-then-ne-clause-source_reached : goal.returns-then-ne-clause-source_reached
returns-then-ne-clause-source_reached g c = λ bytes told same. tells_source _ _ _ _ _ (c.run-outcome.ensures.tells bytes told) same

pub returns-then-ne-clause-sink_reached : goal.returns-then-ne-clause-sink_reached
returns-then-ne-clause-sink_reached g c = λ bytes told same. c.run-outcome.ensures.answered bytes told (inr same)

pub returns-then-ne-clause-complete : goal.returns-then-ne-clause-complete
returns-then-ne-clause-complete g c = λ bytes told ok input_still out_still.
    let t = c.run-outcome.ensures.tells bytes told in
    complete (command_of c.args.words.now) (Rose (g.S.Source.faults c.args.input.now) (g.S.Source.faults c.run-outcome.new.input)) (Rose (g.O.Sink.faults c.args.out.now) (g.O.Sink.faults c.run-outcome.new.out)) _ c.run-outcome.result t.ended ok input_still out_still

pub returns-else-ne-clause-done_text : goal.returns-else-ne-clause-done_text
returns-else-ne-clause-done_text g c = λ bytes told answer same e. tells_text _ _ _ _ _ (c.run-outcome.ensures.tells bytes told) answer same e

pub returns-else-ne-clause-done_only : goal.returns-else-ne-clause-done_only
returns-else-ne-clause-done_only g c = λ bytes told same. c.run-outcome.ensures.answered bytes told (inl same)

pub returns-else-ne-clause-other_front : goal.returns-else-ne-clause-other_front
returns-else-ne-clause-other_front g c = λ bytes told. (c.run-outcome.ensures.tells bytes told).front

pub returns-else-ne-clause-refusals : goal.returns-else-ne-clause-refusals
returns-else-ne-clause-refusals g c = λ refusal is bytes told. tells_exactly _ _ _ _ _ (c.run-outcome.ensures.tells bytes told) refusal is

pub returns-else-ne-clause-script : goal.returns-else-ne-clause-script
returns-else-ne-clause-script g c = λ at kind bytes told. tells_exactly _ _ _ _ _ (c.run-outcome.ensures.tells bytes told) (Script at kind) tt

pub returns-else-ne-clause-range : goal.returns-else-ne-clause-range
returns-else-ne-clause-range g c = λ statement bytes told. tells_exactly _ _ _ _ _ (c.run-outcome.ensures.tells bytes told) (Range statement) tt

pub returns-then-ne-clause-relations : goal.returns-then-ne-clause-relations
returns-then-ne-clause-relations g c = λ is_run bytes told.
    run_tells _ c.args.words.now bytes _ c.run-outcome.result _ _ is_run (c.run-outcome.ensures.tells bytes told) (rw is_run at c.run-outcome.ensures.can) (c.run-outcome.ensures.answered bytes told)

pub returns-else-ne-clause-relations : goal.returns-else-ne-clause-relations
returns-else-ne-clause-relations g c = λ is_run bytes told.
    run_tells _ c.args.words.now bytes _ c.run-outcome.result _ _ is_run (c.run-outcome.ensures.tells bytes told) (rw is_run at c.run-outcome.ensures.can) (c.run-outcome.ensures.answered bytes told)
