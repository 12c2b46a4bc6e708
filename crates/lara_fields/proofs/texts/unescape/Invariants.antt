use Rattle.std.proofs.Common.{◌≡◌, length}
use Rattle.lara_fields.specs.TextCodes.{unescaped}
use Rattle.lara_fields.proofs.UnescapeFacts.{with_front}
use Rattle.lara_fields.proofs.texts.unescape.Given as goal

abbrev pub invariant-pieces : goal.invariant-pieces
invariant-pieces l = with_front l.out (unescaped l.rest) ≡ unescaped l.bytes

abbrev pub decreases-pieces : goal.decreases-pieces
decreases-pieces l = length l.rest
