-- The order in which the key columns of a table stand.
use Rattle.std.specs.Prelude.{Bool, true, false, ◌&&◌, List, [], ◌∷◌}
use Rattle.std.specs.Str.{bytes_eq}
use Rattle.lara_data.specs.declared.table_type.KeyCol.{KeyCol}
use Rattle.lara_data.specs.Names.{Name}

-- the names are those of the key columns, in their sequence
abbrev pub are_names : List KeyCol → List Name → Bool
are_names [] [] = true
are_names [] (n ∷ ns) = false
are_names (k ∷ ks) [] = false
are_names (k ∷ ks) (n ∷ ns) = bytes_eq n k.name && are_names ks ns
