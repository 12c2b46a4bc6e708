use Rattle.std.proofs.Common.{arith}
use Rattle.lara_fields.proofs.EscapeFacts.{escaped_end}
use Rattle.lara_fields.proofs.texts.push_escaped.Goals as goal

pub returns : goal.returns
returns c = escaped_end c.extend_from_slice.new.self c.loop-byte.out c.args.out.now c.args.bytes.now c.loop-byte.byte-index (omega (arith, c.loop-byte-test.false)) c.loop-byte.invariant c.in_ok-extend_from_slice.ensures.ok
