use Rattle.std.proofs.Common.{◌≡◌, drop, take}
use Rattle.lara_fields.specs.Skipping.{behind}
use Rattle.lara_key.specs.KeyReading.{columns_at}
use Rattle.lara_key.proofs.first_columns.columns_behind.Given as goal

abbrev pub invariant-loop-ty : goal.invariant-loop-ty
invariant-loop-ty l = behind (columns_at (drop l.ty-index (take l.columns l.tys)) l.rest) ≡ behind (columns_at (take l.columns l.tys) l.bytes)
