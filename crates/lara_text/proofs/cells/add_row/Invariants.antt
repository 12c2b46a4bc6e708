use Rattle.std.proofs.Common.{◌≡◌, ◌++◌, take, codes}
use Rattle.std.specs.List.{flat_map}
use Rattle.lara_text.specs.TableTexts.{value_text}
use Rattle.lara_text.proofs.cells.add_row.Given as goal

-- the columns so far
abbrev pub invariant-loop-value : goal.invariant-loop-value
invariant-loop-value l = l.text ≡ l.initial.text ++ flat_map (λ y. codes "," ++ value_text y) (take l.value-index l.others)
