-- Behind the closing quote, and past 1,024 bytes.
use Rattle.std.proofs.Common.{sym, ◌∙◌}
use Rattle.lara_syntax.specs.TextContents.{content_byte}
use Rattle.lara_syntax.proofs.Gather.{gather-none}
use Rattle.lara_syntax.proofs.TextLaws.{content_byte-one, content-long}
use Rattle.lara_syntax.proofs.text_content.content.Goals as goal

pub returns-in-None : goal.returns-in-None
returns-in-None c = sym c.loop-content.invariant ∙ gather-none content_byte content_byte-one c.loop-content.content c.loop-content.rest.now c.in_ok-b.b c.in_ok-b.after.now c.in_ok-b.ensures c.in-None.is

pub returns-then-len-eq1024 : goal.returns-then-len-eq1024
returns-then-len-eq1024 c = content-long c.args.bytes.now c.loop-content.content c.loop-content.rest.now c.in-Some.b c.in_ok-b.b c.in_ok-b.after.now c.loop-content.invariant c.in_ok-b.ensures c.in-Some.is (sym c.len.ensures ∙ c.if-len-eq1024.true)
