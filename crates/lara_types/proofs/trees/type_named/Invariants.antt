use Rattle.std.proofs.Common.{◌≡◌, take}
use Rattle.std.specs.Option.{option_copied}
use Rattle.lara_data.specs.TypedTrees.{type_named}
use Rattle.lara_types.proofs.trees.type_named.Given as goal

-- the newest so far
abbrev pub invariant-loop-schema : goal.invariant-loop-schema
invariant-loop-schema l = option_copied l.newest ≡ type_named l.name (take l.schema-index l.known)
