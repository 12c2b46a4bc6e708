use Rattle.std.specs.Prelude.{Ok}
use Rattle.lara_base.specs.Causes.{Rose}
use Rattle.lara.specs.declared.words.Command.TheVariants.{Run}
use Rattle.lara.specs.Endings.{source_shows}
use Rattle.lara.specs.Ruling.{printed, call_shows}
use Rattle.lara.proofs.Chains.{gives_more}
use Rattle.lara.proofs.Ends.{call_shows_more}
use Rattle.lara.proofs.Reaching.{a_run}
use Rattle.lara.proofs.top.command_text.Goals as goal

pub returns-clause-gives : goal.returns-clause-gives
returns-clause-gives g c =
    let rose = Rose (g.S.Source.faults c.args.input.now) (g.S.Source.faults c.run_text.new.input) in
    rw (a_run c.args.command) (λ bytes told. gives_more printed (source_shows rose) (call_shows (Ok Run) rose ⊥) _ c.run_text.result (call_shows_more (Ok Run) rose ⊥ tt) (c.run_text.ensures.gives bytes told))
