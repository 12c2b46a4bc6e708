use Rattle.std.proofs.Common.{◌≡◌, take, None}
use Rattle.lara.specs.Prints.{first_over, texts}
use Rattle.lara.proofs.prints.prints_text.Given as goal

-- the texts so far, and none of their tables is out of range
abbrev pub invariant-loop-print : goal.invariant-loop-print
invariant-loop-print l = record {
  text : l.text ≡ texts (take l.print-index l.prints);
  ranged : first_over (take l.print-index l.prints) ≡ None;
}
