-- What extends a table, entry by entry, and what gives its columns other names: the columns and the table of each.
use Rattle.std.specs.Prelude.{List, [], ◌∷◌, ◌++◌, map, if◌then◌else◌}
use Rattle.std.specs.List.{flat_map}
use Rattle.lara_data.specs.declared.arg.Def.{Def}
use Rattle.lara_data.specs.declared.arg.NamePair.{NamePair}
use Rattle.lara_data.specs.declared.order.EachOp.{EachOp}
use Rattle.lara_data.specs.declared.order.EachOp.TheVariants as each
use Rattle.lara_data.specs.declared.table_type.KeyCol.{KeyCol}
use Rattle.lara_data.specs.declared.table_type.ValCol.{ValCol}
use Rattle.lara_data.specs.TableTypes.{Columns}
use Rattle.lara_data.specs.Names.{Name, Tuple, same_name}
use Rattle.lara_data.specs.Tables.{Entry, Entries, Table, table_of}
use Rattle.lara_data.specs.KeyedTables.{Row}
use Rattle.lara_data.specs.Plugins.{Plugins, apply_tuples}
use Rattle.lara_data.specs.ExprValues.{is_true, value_of, to_key, to_val}
use Rattle.lara_data.specs.declared.arg.KeyDef.{KeyDef}

-- ---- extensions

-- The columns of an extension: a map has the value columns that it defines, a filter those of its table, and a promote
-- and an apply further key columns.
unfoldable pub each_columns : EachOp → Columns → Columns
each_columns (each.Map defs) ty = record { keys = ty.keys; vals = map {A = Def} (λ d. d.col) defs }
each_columns (each.Filter test) ty = ty
each_columns (each.Promote def) ty = record { keys = ty.keys ++ def.col ∷ []; vals = ty.vals }
each_columns (each.Apply call) ty = record { keys = ty.keys ++ call.cols; vals = ty.vals }

-- the key followed by each of the tuples, with the same row
abbrev pub with_tuples : Entry → List Tuple → Entries
with_tuples e ts = map (λ t. record { key = e.key ++ t; row = e.row }) ts

-- the row that is computed for an entry
abbrev pub defined_row : Columns → List Def → Entry → Row
defined_row ty defs e = map {A = Def} (λ d. to_val d.col.ty (value_of ty e.key e.row d.expr)) defs

-- the key of an entry with what is computed for it behind
abbrev pub promoted_key : Columns → KeyDef → Entry → Tuple
promoted_key ty def e = e.key ++ to_key def.col.ty (value_of ty e.key e.row def.expr) ∷ []

-- What comes of an entry over the columns ty: of a map the key with the row that is computed, of a filter the entry where the
-- test is true, of a promote the key with a further column and the same row.
unfoldable pub of_each : Plugins → Columns → EachOp → Entry → Entries
of_each ps ty (each.Map defs) e = record { key = e.key; row = defined_row ty defs e } ∷ []
of_each ps ty (each.Filter test) e = if is_true (value_of ty e.key e.row test) then e ∷ [] else []
of_each ps ty (each.Promote def) e = record { key = promoted_key ty def e; row = e.row } ∷ []
of_each ps ty (each.Apply call) e = with_tuples e (apply_tuples ps call.plugin ty call.args e.key)

-- the table of what comes of each entry of a table
unfoldable pub ext : Plugins → EachOp → Table → Table
ext ps op t = table_of (each_columns op t.ty) (flat_map (of_each ps t.ty op) t.entries)

-- ---- other names

-- the name that a column gets: that of the pair that has its name as the old one, else its own
unfoldable pub new_name : List NamePair → Name → Name
new_name [] n = n
new_name (p ∷ ps) n = if same_name n p.old then p.new else new_name ps n

-- the columns under their new names, all at once
unfoldable pub renamed_columns : List NamePair → Columns → Columns
renamed_columns pairs ty = record { keys = map {A = KeyCol} (λ k. record { name = new_name pairs k.name; ty = k.ty }) ty.keys; vals = map {A = ValCol} (λ v. record { name = new_name pairs v.name; ty = v.ty }) ty.vals }

-- the same entries under other names
unfoldable pub renamed : List NamePair → Table → Table
renamed pairs t = record { ty = renamed_columns pairs t.ty; entries = t.entries }
