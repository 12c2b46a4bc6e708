-- The content so far, and that of the rest, is all.
use Rattle.std.proofs.Common.{◌≡◌, length}
use Rattle.lara_syntax.specs.ScanSteps.{gather}
use Rattle.lara_syntax.specs.TextContents.{content_byte, content}
use Rattle.lara_syntax.proofs.text_content.content.Given as goal

abbrev pub invariant-loop-content : goal.invariant-loop-content
invariant-loop-content l = gather content_byte l.content l.rest ≡ content l.bytes

abbrev pub decreases-loop-content : goal.decreases-loop-content
decreases-loop-content l = length l.rest
