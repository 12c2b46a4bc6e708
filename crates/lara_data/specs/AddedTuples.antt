-- The tuples that a plugin adds to a key: of those that it has, the ones of its types, each once, rising.
use Rattle.std.specs.Prelude.{List, [], ◌∷◌, filter, Option, Some, None}
use Rattle.lara_key.specs.declared.key.KeyType.{KeyType}
use Rattle.lara_key.specs.Keys.{tuple_has, tuple_cmp}
use Rattle.lara_data.specs.KeyedTables.{key_put}
use Rattle.lara_data.specs.Names.{Tuple}

-- the tuples, each once, rising
unfoldable pub rising_tuples : List Tuple → List Tuple
rising_tuples [] = []
rising_tuples (t ∷ ts) = key_put tuple_cmp t (rising_tuples ts)

-- those of the added types; a plugin that refuses adds none
abbrev pub added : Option (List KeyType) → List Tuple → List Tuple
added None ts = []
added (Some tys) ts = rising_tuples (filter (tuple_has tys) ts)
