use Rattle.std.proofs.Common.{◌≡◌, take}
use Rattle.lara_key.specs.KeyCodes.{tuple_code}
use Rattle.lara_key.proofs.encoding.encode.Given as goal

abbrev pub invariant-loop-column : goal.invariant-loop-column
invariant-loop-column l = l.out ≡ tuple_code (take l.column-index l.tuple)
