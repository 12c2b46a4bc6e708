use Rattle.std.proofs.Common.{◌≡◌, ◌++◌, take, codes}
use Rattle.std.specs.List.{flat_map}
use Rattle.lara_text.specs.TableTexts.{key_text}
use Rattle.lara_text.proofs.cells.add_key.Given as goal

-- the columns so far
abbrev pub invariant-loop-column : goal.invariant-loop-column
invariant-loop-column l = l.text ≡ l.initial.text ++ flat_map (λ y. codes "," ++ key_text y) (take l.column-index l.others)
