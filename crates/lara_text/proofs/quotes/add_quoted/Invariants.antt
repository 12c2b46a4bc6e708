use Rattle.std.proofs.Common.{◌≡◌, ◌++◌, take}
use Rattle.std.specs.List.{flat_map}
use Rattle.lara_text.specs.Quotes.{quoted_byte}
use Rattle.lara_text.proofs.quotes.add_quoted.Given as goal

-- the bytes so far
abbrev pub invariant-loop-byte : goal.invariant-loop-byte
invariant-loop-byte l = l.text ≡ l.initial.text ++ flat_map quoted_byte (take l.byte-index l.content)
