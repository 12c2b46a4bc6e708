use Rattle.std.proofs.Common.{◌≡◌, ◌++◌, take, codes}
use Rattle.std.specs.List.{flat_map}
use Rattle.lara_text.specs.TableTexts.{val_column_text}
use Rattle.lara_text.proofs.columns.add_val_columns.Given as goal

-- the columns so far
abbrev pub invariant-loop-val : goal.invariant-loop-val
invariant-loop-val l = l.text ≡ l.initial.text ++ flat_map (λ y. codes ", " ++ val_column_text y) (take l.val-index l.others)
