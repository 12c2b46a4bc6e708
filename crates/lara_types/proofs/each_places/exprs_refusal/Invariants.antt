use Rattle.std.proofs.Common.{◌≡◌, drop}
use Rattle.lara_types.specs.EachRules.{exprs_rules}
use Rattle.lara_types.specs.Rules.{first_broken}
use Rattle.lara_types.proofs.each_places.exprs_refusal.Given as goal

-- each expression so far has a type
abbrev pub invariant-loop-def : goal.invariant-loop-def
invariant-loop-def l = first_broken (exprs_rules l.ty l.defs) ≡ first_broken (exprs_rules l.ty (drop l.def-index l.defs))
