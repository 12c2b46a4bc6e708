use Rattle.std.proofs.Common.{take}
use Rattle.lara_types.specs.StoredTypes.{AllColumns}
use Rattle.lara_types.proofs.stored.have_columns.Given as goal

-- the types so far have the columns of a table
abbrev pub invariant-loop-schema : goal.invariant-loop-schema
invariant-loop-schema l = AllColumns (take l.schema-index l.stored)
