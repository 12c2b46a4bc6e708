use Rattle.lara_semiring.specs.RowDecoding.{row_read, no_row}
use Rattle.lara_semiring.proofs.row_decoding.decode_row.Goals as goal

pub returns-in-Ok : goal.returns-in-Ok
returns-in-Ok c = record { exact = row_read c.args.tys.now c.args.bytes.now c.in-Ok.row c.known_bytes.ensures c.in-Ok.ensures }

pub returns-in-Err-Refused : goal.returns-in-Err-Refused
returns-in-Err-Refused c = record { exact = no_row c.args.tys.now c.args.bytes.now c.in-Err-Refused.left c.known_bytes.ensures (rw c.in-Err-Refused.field-0-is at c.in-Err-Refused.ensures) }
