-- With no digit left the value is that of all.
use Rattle.std.proofs.Common.{sym, ◌∙◌, ap}
use Rattle.lara_syntax.specs.ByteClasses.{within_64, number_from}
use Rattle.lara_syntax.proofs.Numbers.{within_some}
use Rattle.lara_syntax.proofs.classes.number_value.Goals as goal

pub returns-in-None : goal.returns-in-None
returns-in-None c = sym (ap within_64 (sym c.loop-b.invariant.0 ∙ ap (number_from c.loop-b.value) c.in-None.ensures) ∙ within_some c.loop-b.value c.loop-b.invariant.2)
