use Rattle.std.proofs.Common.{◌≡◌, ◌++◌}
use Rattle.std.specs.List.{flat_map}
use Rattle.lara_data.specs.MapTables.{of_pairs}
use Rattle.lara_text.specs.TableTexts.{entry_line}
use Rattle.lara.proofs.table_text.add_cells.Given as goal

-- the lines that are left make the whole
abbrev pub invariant-loop-key : goal.invariant-loop-key
invariant-loop-key l = l.text ++ flat_map entry_line (of_pairs l.key-iterator) ≡ l.initial.text ++ flat_map entry_line (of_pairs l.fn.cells)
