use Rattle.std.proofs.Common.{◌≡◌, take}
use Rattle.std.specs.Option.{option_copied}
use Rattle.lara_data.specs.Denotations.{table_named}
use Rattle.lara_assoc.proofs.named.table_named.Given as goal

-- the newest so far
abbrev pub invariant-loop-named : goal.invariant-loop-named
invariant-loop-named l = option_copied l.newest ≡ table_named l.name (take l.named-index l.tables)
