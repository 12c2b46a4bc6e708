use Rattle.std.proofs.Common.{◌≡◌, take}
use Rattle.lara_semiring.specs.RowCodes.{row_code}
use Rattle.lara_semiring.proofs.row_encoding.encode_row.Given as goal

abbrev pub invariant-loop-value : goal.invariant-loop-value
invariant-loop-value l = l.out ≡ row_code (take l.value-index l.row)
