use Rattle.std.proofs.Common.{◌≡◌, drop}
use Rattle.lara_fields.specs.Loops.{with_front}
use Rattle.lara_semiring.specs.RowReading.{values_at}
use Rattle.lara_semiring.proofs.row_decoding.values_of.Given as goal

abbrev pub invariant-loop-ty : goal.invariant-loop-ty
invariant-loop-ty l = with_front l.row (values_at (drop l.ty-index l.tys) l.rest) ≡ values_at l.tys l.bytes
