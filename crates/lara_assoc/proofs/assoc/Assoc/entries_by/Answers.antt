use Rattle.std.proofs.Common.{◌∙◌}
use Rattle.lara_assoc.proofs.TableFacts.{ordered_is}
use Rattle.lara_assoc.proofs.assoc.Assoc.entries_by.Goals as goal

pub returns : goal.returns
returns c =
    c.into_rows.ensures.rows
    ∙ ordered_is c.args.self.now c.args.order.now c.in_ok-recut.field-0 c.in_ok-recut.ensures.types c.into_rows.ensures.typed c.in_ok-recut.ensures.sums
