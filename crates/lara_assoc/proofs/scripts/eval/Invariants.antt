use Rattle.std.proofs.Common.{◌≡◌, take}
use Rattle.lara_data.specs.Plugins.{handed}
use Rattle.lara_data.specs.Denotations.{after_all}
use Rattle.lara_assoc.specs.RunningScripts.{IsRunning}
use Rattle.lara_assoc.proofs.scripts.eval.Given as goal

-- the statements so far were run
abbrev pub invariant-loop-statement : goal.invariant-loop-statement
invariant-loop-statement g l = record {
  run : IsRunning l.running (after_all (handed {I = g.dyn-1.0.I} {H = λ x. (g.dyn-1.0.entry x).0.Denot} (λ vtable. (g.dyn-1.0.entry vtable).1) l.plugins.items) l.tables (take l.statement-index l.script));
  counted : l.running.statement ≡ l.statement-index;
}
