use Rattle.std.proofs.Common.{◌≡◌, ◌≤◌, ◌++◌, ℕ, List, length}
use Rattle.lara_base.specs.Moves.{Adds}
use Rattle.lara.proofs.output.write_whole.Given as goal

-- a front of the text was added, and the rest is left
abbrev pub invariant-loop-rest : goal.invariant-loop-rest
invariant-loop-rest g l =
    let held = g.O.Sink.held in
    let faults = g.O.Sink.faults in
    record {
      added : (part : List ℕ) × (part ++ l.rest ≡ l.text) × Adds (held l.fn.out) (held l.out) part;
      later : faults l.fn.out ≤ faults l.out;
    }

abbrev pub decreases-loop-rest : goal.decreases-loop-rest
decreases-loop-rest g l = length l.rest
