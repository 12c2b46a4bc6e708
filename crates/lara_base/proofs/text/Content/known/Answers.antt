use Rattle.std.proofs.Common.{ap, arith, length}
use Rattle.lara_base.proofs.TextFacts.{is_content_from}
use Rattle.lara_base.proofs.text.Content.known.Goals as goal

pub returns : goal.returns
returns c = is_content_from _ c.as_slice.result.now (cc (c.self.view_is, c.as_slice.ensures)) (omega (arith, ap length c.self.view_is, c.self.invariant)) c.known_bytes.ensures
