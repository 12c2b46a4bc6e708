use Rattle.std.proofs.Common.{arith}
use Rattle.lara_base.specs.Causes.{Rose}
use Rattle.lara.specs.Endings.{source_shows}
use Rattle.lara.proofs.Limits.{within_long, within_short}
use Rattle.lara.proofs.input.script_bytes.Goals as goal

pub returns-then-len-clause-gives : goal.returns-then-len-clause-gives
returns-then-len-clause-gives g c = λ bytes told. within_long (source_shows (Rose (g.S.Source.faults c.args.input.now) (g.S.Source.faults c.read_within.new.input))) bytes _ (c.in-Ok.ensures.told bytes (told tt)) (omega arith)

pub returns-else-len-clause-gives : goal.returns-else-len-clause-gives
returns-else-len-clause-gives g c = λ bytes told. within_short bytes _ (c.in-Ok.ensures.told bytes (told tt)) (omega arith)
