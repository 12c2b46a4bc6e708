use Rattle.std.proofs.Common.{◌≡◌, map, take}
use Rattle.lara_key.specs.declared.key.KeyVal.TheVariants.{Nat}
use Rattle.lara.proofs.tests_tables.key.Given as goal

-- the numbers so far
abbrev pub invariant-loop-n : goal.invariant-loop-n
invariant-loop-n l = l.key ≡ map Nat (take l.n-index l.numbers)
