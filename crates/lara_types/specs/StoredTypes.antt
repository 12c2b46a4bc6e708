-- What the types of stored tables are known to be.
use Rattle.std.specs.Prelude.{◌≡◌, true, List, [], ◌∷◌}
use Rattle.lara_data.specs.declared.schema.Schema.{Schema}
use Rattle.lara_data.specs.TableTypes.{are_columns}

-- each type has the columns of a table
unfoldable pub AllColumns : List Schema → Type 0
AllColumns [] = Unit {0}
AllColumns (s ∷ ss) = (are_columns s.ty.keys s.ty.vals ≡ true) × AllColumns ss
