use Rattle.std.proofs.Common.{◌≡◌, drop}
use Rattle.lara_fields.specs.Loops.{with_front}
use Rattle.lara_key.specs.KeyReading.{columns_at}
use Rattle.lara_key.proofs.decoding.columns_of.Given as goal

abbrev pub invariant-loop-ty : goal.invariant-loop-ty
invariant-loop-ty l = with_front l.tuple (columns_at (drop l.ty-index l.tys) l.rest) ≡ columns_at l.tys l.bytes
