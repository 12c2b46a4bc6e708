use Rattle.std.proofs.Common.{◌≡◌, map, take}
use Rattle.lara_data.specs.declared.arg.Def.{Def}
use Rattle.lara_types.proofs.each_types.defined_cols.Given as goal

-- the columns so far
abbrev pub invariant-loop-def : goal.invariant-loop-def
invariant-loop-def l = l.cols ≡ map (λ (d : Def). d.col) (take l.def-index l.defs)
