-- Which scripts are typed: each statement, where the names of the earlier ones are known.
use Rattle.std.specs.Prelude.{◌≡◌, Bool, true, fold, ◌&&◌, ◌==◌, List, [], ◌∷◌, ◌++◌, length, Option, Some, None}
use Rattle.std.specs.List.{list_all}
use Rattle.lara_data.specs.declared.script.Statement.{Statement}
use Rattle.lara_data.specs.declared.script.Statement.TheVariants.{Assign, Print, Store}
use Rattle.lara_data.specs.declared.schema.Schema.{Schema}
use Rattle.lara_data.specs.TableTypes.{Columns, key_names}
use Rattle.lara_data.specs.Names.{Name, has}
use Rattle.lara_data.specs.TypedTrees.{type_named, IsTyped}

-- The order has as many names as there are key columns, and each key column among them: where no two key columns have one
-- name, as in each table type, it has each once.
unfoldable pub is_order : List Name → List Name → Bool
is_order order keys = length order == length keys && list_all (has order) keys

-- the name is known, and the order has each of its key columns once
abbrev pub PrintTyped : Option Columns → List Name → Type 0
PrintTyped None order = ⊥
PrintTyped (Some ty) order = is_order order (key_names ty.keys) ≡ true

-- the name is known
abbrev pub StoreTyped : Option Columns → Type 0
StoreTyped None = ⊥
StoreTyped (Some ty) = Unit {0}

-- the statement is typed, where these names are known
abbrev pub StatementTyped : List Schema → Statement → Type 0
StatementTyped known (Assign name node) = IsTyped known node
StatementTyped known (Print name order) = PrintTyped (type_named name known) order
StatementTyped known (Store old new) = StoreTyped (type_named old known)

-- what is known behind a statement
abbrev pub known_after : List Schema → Statement → List Schema
known_after known (Assign name node) = known ++ record { name = name; ty = node.ty } ∷ []
known_after known (Print name order) = known
known_after known (Store old new) = known

-- what is known behind statements
unfoldable pub all_known : List Schema → List Statement → List Schema
all_known known ss = fold known_after known ss

-- each statement is typed where the names of those before it are known
unfoldable pub AllTyped : List Schema → List Statement → Type 0
AllTyped known [] = Unit {0}
AllTyped known (s ∷ ss) = StatementTyped known s × AllTyped (known_after known s) ss

-- at the start no name is known
abbrev pub ScriptTyped : List Statement → Type 0
ScriptTyped ss = AllTyped [] ss
