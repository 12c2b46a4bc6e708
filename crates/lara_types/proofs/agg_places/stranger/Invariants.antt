use Rattle.std.proofs.Common.{◌≡◌, drop}
use Rattle.lara_types.specs.NameRules.{key_rules}
use Rattle.lara_types.specs.Rules.{first_broken}
use Rattle.lara_types.proofs.agg_places.stranger.Given as goal

-- each name so far is a key column's
abbrev pub invariant-loop-name : goal.invariant-loop-name
invariant-loop-name l = first_broken (key_rules l.keys l.names) ≡ first_broken (key_rules l.keys (drop l.name-index l.names))
