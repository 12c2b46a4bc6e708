use Rattle.std.proofs.Common.{arith, ◌++◌, take}
use Rattle.std.proofs.lemmas.Grind.{common_steps}
use Rattle.lara_base.proofs.MoveFacts.{takes_then}
use Rattle.lara.proofs.input.read_within.Goals as goal

pub returns-in_err-extend_from_slice-clause-most :
    goal.returns-in_err-extend_from_slice-clause-most
returns-in_err-extend_from_slice-clause-most g c =
    let bytes = c.loop-buf.bytes in
    let given = take c.in-Ok.count c.read.new.buf in
    (bytes ++ given, grind (arith, common_steps), takes_then _ _ _ _ _ c.loop-buf.invariant.taken c.in-Ok.ensures.bytes)
