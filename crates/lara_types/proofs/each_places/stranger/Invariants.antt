use Rattle.std.proofs.Common.{◌≡◌, drop}
use Rattle.lara_types.specs.EachRules.{olds, column_name_rules}
use Rattle.lara_types.specs.Rules.{first_broken}
use Rattle.lara_types.proofs.each_places.stranger.Given as goal

-- each old name so far is a column's
abbrev pub invariant-loop-pair : goal.invariant-loop-pair
invariant-loop-pair l = first_broken (column_name_rules l.ty (olds l.pairs)) ≡ first_broken (column_name_rules l.ty (olds (drop l.pair-index l.pairs)))
