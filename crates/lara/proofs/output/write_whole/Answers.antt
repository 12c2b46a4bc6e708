use Rattle.std.proofs.Common.{arith, ◌++◌, take, append_assoc}
use Rattle.std.proofs.lemmas.List.{take-append-drop}
use Rattle.lara_base.proofs.MoveFacts.{adds_then}
use Rattle.lara.proofs.output.write_whole.Goals as goal

pub loop-rest-preserved : goal.loop-rest-preserved
loop-rest-preserved g c =
    let inv = c.loop-rest.invariant.added in
    let rest = c.loop-rest.rest.now in
    let k = c.in_ok-count.count in
    record {
      added = (inv.0 ++ take k rest, rw (c.split_at.ensures.back, append_assoc, take-append-drop) inv.1, adds_then _ _ _ _ _ inv.2 c.in_ok-count.ensures.bytes);
      later = omega (arith, c.loop-rest.invariant.later, c.write.ensures.cause.later);
    }
