use Rattle.std.proofs.Common.{◌≡◌, ◌≤◌, ◌-◌, [], length, take, drop}
use Rattle.lara_types.specs.EachRules.{olds}
use Rattle.lara_types.specs.NameRules.{once_rules}
use Rattle.lara_types.specs.Rules.{first_broken}
use Rattle.lara_types.proofs.EachPlaces.{old_words}
use Rattle.lara_types.proofs.each_places.repeated.Given as goal

-- no old name so far stood before
abbrev pub invariant-loop-before : goal.invariant-loop-before
invariant-loop-before l = record {
  within : l.before ≤ length l.pairs;
  so_far : first_broken (once_rules [] (olds l.pairs)) ≡ first_broken (once_rules (old_words (take l.before l.pairs)) (olds (drop l.before l.pairs)));
}

abbrev pub decreases-loop-before : goal.decreases-loop-before
decreases-loop-before l = length l.pairs - l.before
