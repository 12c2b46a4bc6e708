use Rattle.std.proofs.Common.{◌≡◌, ◌≤◌, ℕ, List, take, drop}
use Rattle.std.specs.Prelude.{Some}
use Rattle.lara.proofs.arguments.arguments.Given as goal

-- the words so far are the arguments so far, without the first
abbrev pub invariant-loop-number : goal.invariant-loop-number
invariant-loop-number g l =
    record {
      some : 1 ≤ l.number;
      words : (told : List (List ℕ)) → g.I.Invocation.arguments l.invocation ≡ Some told → l.words ≡ drop 1 (take l.number told);
    }
