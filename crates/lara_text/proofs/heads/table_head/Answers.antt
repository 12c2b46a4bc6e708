use Rattle.std.proofs.Common.{◌++◌, ◌∙◌, ap}
use Rattle.lara_text.specs.TableTexts.{head_text}
use Rattle.lara_text.specs.Told.{head_told}
use Rattle.lara_text.proofs.heads.table_head.Goals as goal

pub returns-clause-only : goal.returns-clause-only
returns-clause-only c = head_told c.args.name.now c.args.ty.now c.args.order.now _ (c.in_ok-add_head.ensures ∙ ap (λ t. t ++ head_text c.args.name.now c.args.ty.now c.args.order.now) c.new-text.ensures)
