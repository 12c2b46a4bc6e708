-- The newest tables of names.
use Rattle.std.specs.Prelude.{◌≡◌, List}
use Rattle.std.specs.Str.{bytes_eq}
use Rattle.indexmap.specs.IndexMap.{IndexMap, get}
use Rattle.lara_data.specs.Names.{Name}
use Rattle.lara_data.specs.Tables.{Table}
use Rattle.lara_data.specs.Denotations.{NamedTable, table_named}

-- the map gives for each name the table that was assigned to it last
pub record HasNewest {S : Type 0} (map : IndexMap Name Table S) (tables : List NamedTable) : Type 0 where
  pub newest : (n : Name) → get bytes_eq map n ≡ table_named n tables
