use Rattle.lara_key.specs.Decoding.{tuple_read, no_tuple}
use Rattle.lara_key.proofs.decoding.decode.Goals as goal

pub returns-in-Ok : goal.returns-in-Ok
returns-in-Ok c = record { exact = tuple_read c.args.tys.now c.args.bytes.now c.in-Ok.tuple c.known_bytes.ensures c.in-Ok.ensures }

pub returns-in-Err-Refused : goal.returns-in-Err-Refused
returns-in-Err-Refused c = record { exact = no_tuple c.args.tys.now c.args.bytes.now c.in-Err-Refused.left c.known_bytes.ensures (rw c.in-Err-Refused.field-0-is at c.in-Err-Refused.ensures) }
