use Rattle.lara_text.specs.TableTexts.{entry_line}
use Rattle.lara.proofs.TextFacts.{lines_step, lines_end}
use Rattle.lara.proofs.table_text.add_cells.Goals as goal

pub loop-key-preserved : goal.loop-key-preserved
loop-key-preserved c =
    lines_step entry_line c.loop-key.text c.add_cell_line.new.text _ c.loop-key.key-iterator c.next.new.self c.in-Some.key.now c.in-Some.row.now c.in-Some.ensures.steps c.in_ok-add_cell_line.ensures c.loop-key.invariant

pub returns : goal.returns
returns c = lines_end entry_line c.loop-key.text _ c.loop-key.key-iterator c.in-None.ensures.steps.0 c.loop-key.invariant
