use Rattle.std.proofs.Common.{◌≡◌, drop}
use Rattle.lara_types.specs.EachRules.{fit_rules}
use Rattle.lara_types.specs.Rules.{first_broken}
use Rattle.lara_types.proofs.each_places.unfit.Given as goal

-- each expression so far is of its column's type
abbrev pub invariant-loop-def : goal.invariant-loop-def
invariant-loop-def l = first_broken (fit_rules l.ty l.defs) ≡ first_broken (fit_rules l.ty (drop l.def-index l.defs))
