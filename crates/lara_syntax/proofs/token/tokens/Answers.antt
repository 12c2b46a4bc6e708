-- There is one reading.
use Rattle.lara_syntax.proofs.SliceLaws.{tokens-only}
use Rattle.lara_syntax.proofs.token.tokens.Goals as goal

pub returns-clause-only : goal.returns-clause-only
returns-clause-only c = tokens-only c.args.bytes.now c.in_ok-tokens.tokens.list c.in_ok-tokens.tokens.stopped c.in_ok-tokens.ensures.0 c.in_ok-tokens.ensures.1
