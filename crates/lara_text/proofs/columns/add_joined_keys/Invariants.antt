use Rattle.std.proofs.Common.{◌≡◌, ◌++◌, take, codes}
use Rattle.std.specs.List.{flat_map}
use Rattle.lara_text.specs.TableTexts.{key_column_text}
use Rattle.lara_text.proofs.columns.add_joined_keys.Given as goal

-- the columns so far
abbrev pub invariant-loop-key : goal.invariant-loop-key
invariant-loop-key l = l.text ≡ l.initial.text ++ flat_map (λ y. codes ", " ++ key_column_text y) (take l.key-index l.others)
