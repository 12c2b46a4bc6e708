-- Which trees mean a table of their type.
use Rattle.std.specs.Prelude.{List}
use Rattle.indexmap.specs.IndexMap.{IndexMap}
use Rattle.lara_data.specs.declared.node.Node.{Node}
use Rattle.lara_data.specs.declared.schema.Schema.{Schema}
use Rattle.lara_data.specs.Names.{Name}
use Rattle.lara_data.specs.Tables.{Table}
use Rattle.lara_data.specs.Denotations.{NamedTable, Database}
use Rattle.lara_data.specs.Fits.{NodeFits, KnownHaveTables}
use Rattle.lara_data.specs.Plugins.{Plugins}
use Rattle.lara_data.specs.TypedTrees.{IsTyped}
use Rattle.lara_assoc.specs.Newest.{HasNewest}

-- a typed tree that fits the database and the plugins, where the names that it is typed by have their tables
pub record IsMeant (ps : Plugins) (db : Database) (tables : List NamedTable) (node : Node) : Type 0 where
  pub known : List Schema
  pub stands : KnownHaveTables db known tables
  pub typed : IsTyped known node
  pub fits : NodeFits ps db node

-- the same, where a map has the newest tables
pub record IsMeantBy {S : Type 0} (ps : Plugins) (db : Database) (map : IndexMap Name Table S) (node : Node) : Type 0 where
  pub tables : List NamedTable
  pub newest : HasNewest map tables
  pub meant : IsMeant ps db tables node
