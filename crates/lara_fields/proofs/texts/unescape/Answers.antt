use Rattle.lara_fields.specs.TextCodes.{unescaped}
use Rattle.lara_fields.proofs.UnescapeFacts.{unescaped_end}
use Rattle.lara_fields.proofs.texts.unescape.Goals as goal

pub returns-in-None-piece : goal.returns-in-None-piece
returns-in-None-piece c = unescaped_end c.pieces.out c.pieces.rest.now c.in-Some.after.now (unescaped c.args.bytes.now) (rw c.in-None-piece.is at c.in-Some.ensures) c.pieces.invariant
