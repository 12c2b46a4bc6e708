use Rattle.std.proofs.Common.{◌≡◌, ◌≤◌, ◌-◌, [], length, take, drop}
use Rattle.lara_types.specs.NameRules.{once_rules}
use Rattle.lara_types.specs.Rules.{first_broken}
use Rattle.lara_types.specs.Written.{plain}
use Rattle.lara_types.proofs.agg_places.repeated.Given as goal

-- no name so far stood before
abbrev pub invariant-loop-before : goal.invariant-loop-before
invariant-loop-before l = record {
  within : l.before ≤ length l.names;
  so_far : first_broken (once_rules [] l.names) ≡ first_broken (once_rules (plain (take l.before l.names)) (drop l.before l.names));
}

abbrev pub decreases-loop-before : goal.decreases-loop-before
decreases-loop-before l = length l.names - l.before
