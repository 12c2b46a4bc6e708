use Rattle.std.proofs.Common.{◌≡◌, ◌≤◌, ◌+◌, length}
use Rattle.lara_fields.specs.TextCodes.{unescaped, text_at}
use Rattle.lara_fields.specs.Skipping.{passed, behind}
use Rattle.lara_fields.proofs.texts_behind.text_behind.Given as goal

abbrev pub invariant-pieces : goal.invariant-pieces
invariant-pieces l = record { same : passed l.count l.full (unescaped l.rest) ≡ behind (text_at l.bytes); within : l.count + length l.rest ≤ length l.bytes }

abbrev pub decreases-pieces : goal.decreases-pieces
decreases-pieces l = length l.rest
