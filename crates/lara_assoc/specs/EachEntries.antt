-- What comes of an entry of a map, a filter and a promote.
use Rattle.std.specs.Prelude.{Bool, List}
use Rattle.lara_data.specs.declared.arg.Def.{Def}
use Rattle.lara_data.specs.declared.arg.KeyDef.{KeyDef}
use Rattle.lara_data.specs.declared.expr.Expr.{Expr}
use Rattle.lara_data.specs.TableTypes.{Columns}
use Rattle.lara_data.specs.Tables.{Entry}
use Rattle.lara_data.specs.ExprValues.{is_true, value_of}
use Rattle.lara_data.specs.Extensions.{defined_row, promoted_key}

-- the key with the row that is computed for it
abbrev pub mapped : Columns → List Def → Entry → Entry
mapped ty defs e = record { key = e.key; row = defined_row ty defs e }

-- the test is true of the entry
abbrev pub kept : Columns → Expr → Entry → Bool
kept ty test e = is_true (value_of ty e.key e.row test)

-- the longer key with the same row
abbrev pub promoted : Columns → KeyDef → Entry → Entry
promoted ty def e = record { key = promoted_key ty def e; row = e.row }
