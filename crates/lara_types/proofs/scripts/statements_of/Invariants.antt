use Rattle.std.proofs.Common.{◌≡◌, take, Ok}
use Rattle.lara_data.specs.Plugins.{handed}
use Rattle.lara_types.specs.Checks.{at_start, one_more}
use Rattle.lara_types.specs.Walks.{walk}
use Rattle.lara_types.proofs.scripts.statements_of.Given as goal

-- the statements so far, and what is known behind them
abbrev pub invariant-loop-written : goal.invariant-loop-written
invariant-loop-written g l = walk (one_more (handed {I = g.dyn-1.0.I} {H = λ x. (g.dyn-1.0.entry x).0.Denot} (λ vtable. (g.dyn-1.0.entry vtable).1) l.plugins.items) l.stored) at_start (take l.written-index l.tree.statements) ≡ Ok (record { known = l.known; statements = l.statements })
