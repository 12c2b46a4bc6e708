use Rattle.std.proofs.Common.{sym, ◌∙◌}
use Rattle.lara_fields.proofs.SkipFacts.{passed_end}
use Rattle.lara_fields.proofs.texts_behind.text_behind.Goals as goal

pub returns-then-is_kind : goal.returns-then-is_kind
returns-then-is_kind c = passed_end c.pieces.count c.pieces.full c.pieces.rest.now c.in_ok-piece.after.now c.args.bytes.now (sym c.is_kind.ensures ∙ c.if-is_kind.true) (rw c.in_default.is at c.in_ok-piece.ensures) c.pieces.invariant.same
