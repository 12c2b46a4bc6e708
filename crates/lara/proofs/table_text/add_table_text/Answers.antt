use Rattle.std.proofs.Common.{rules, ◌≡◌, ◌++◌, ◌∙◌, sym, subst, OnOk, ℕ, List, length}
use Rattle.std.specs.List.{flat_map}
use Rattle.lara_data.specs.MapTables.{of_pairs}
use Rattle.lara_text.specs.TableTexts.{head_text, entry_line, line}
use Rattle.lara.proofs.TextFacts.{text_whole, lines_count}
use Rattle.lara.proofs.table_text.add_table_text.Goals as goal

pub returns : goal.returns
returns c =
    let cells = c.in_ok-cells.cells.entries in
    let head : c.add_head_line.new.text ≡ c.args.text.now ++ line (head_text c.args.name.now c.args.table.now.ty c.args.order.now) = search rules in
    let lines : c.add_cells-2.new.text ≡ c.add_head_line.new.text ++ flat_map entry_line (of_pairs c.in_ok-cells.cells.entries) = search rules in
    let count : c.len-2.result ≡ length c.in_ok-cells.cells.entries = search rules in
    subst (λ (t : List ℕ). OnOk c.add_end_line-2.result (c.add_end_line-2.new.text ≡ t))
    (text_whole c.args.name.now c.args.order.now c.args.table.now c.args.text.now c.add_head_line.new.text c.add_cells-2.new.text (of_pairs cells) c.len-2.result head lines c.in_ok-cells.ensures (count ∙ sym (lines_count cells)))
    c.add_end_line-2.ensures
