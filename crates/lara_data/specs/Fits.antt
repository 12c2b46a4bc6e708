-- Which trees and scripts fit a database and a list of plugins, and which tables stand for the names of a script.
use Rattle.std.specs.Prelude.{◌≡◌, List, [], ◌∷◌, Option, Some, None}
use Rattle.lara_data.specs.declared.node.Node.{Node}
use Rattle.lara_data.specs.declared.node.Op.{Op}
use Rattle.lara_data.specs.declared.node.Op.TheBlock.{end_of-Node, more_of-Node}
use Rattle.lara_data.specs.declared.node.Op.TheVariants.{Load, Named, Literal, Join', Union', Agg', Map', Filter', Promote', Rename', Apply'}
use Rattle.lara_data.specs.declared.schema.Schema.{Schema}
use Rattle.lara_data.specs.declared.script.Statement.{Statement}
use Rattle.lara_data.specs.declared.script.Statement.TheVariants.{Assign, Print, Store}
use Rattle.lara_data.specs.TableTypes.{Columns}
use Rattle.lara_data.specs.Tables.{Table}
use Rattle.lara_data.specs.TypedTables.{IsTypedTable}
use Rattle.lara_data.specs.Plugins.{Plugins, CallFits}
use Rattle.lara_data.specs.Denotations.{NamedTable, Database, table_named}

-- a table of these columns
pub record IsTableOf (ty : Columns) (t : Table) : Type 0 where
  pub columns : t.ty ≡ ty
  pub typed : IsTypedTable t

-- each is a table of its type
unfoldable pub TablesTyped : List NamedTable → Type 0
TablesTyped [] = Unit {0}
TablesTyped (d ∷ ds) = IsTypedTable d.table × TablesTyped ds

-- there is a table, and it has these columns
abbrev pub LoadFits : Option Table → Columns → Type 0
LoadFits None ty = ⊥
LoadFits (Some t) ty = t.ty ≡ ty

-- each load names a stored table of its node's type, and each apply a plugin that adds its columns' types
unfoldable pub OpFits : Plugins → Database → Op → Columns → Type 0
OpFits ps db (Load n) ty = LoadFits (table_named n db) ty
OpFits ps db (Named n) ty = Unit {0}
OpFits ps db (Literal es) ty = Unit {0}
OpFits ps db (Join' _ (more_of-Node t a end_of-Node) _ (more_of-Node u b end_of-Node)) ty = OpFits ps db a t × OpFits ps db b u
OpFits ps db (Union' _ (more_of-Node t a end_of-Node) _ (more_of-Node u b end_of-Node)) ty = OpFits ps db a t × OpFits ps db b u
OpFits ps db (Agg' _ (more_of-Node t a end_of-Node) ks) ty = OpFits ps db a t
OpFits ps db (Map' _ (more_of-Node t a end_of-Node) defs) ty = OpFits ps db a t
OpFits ps db (Filter' _ (more_of-Node t a end_of-Node) test) ty = OpFits ps db a t
OpFits ps db (Promote' _ (more_of-Node t a end_of-Node) def) ty = OpFits ps db a t
OpFits ps db (Rename' _ (more_of-Node t a end_of-Node) pairs) ty = OpFits ps db a t
OpFits ps db (Apply' _ (more_of-Node t a end_of-Node) call) ty = OpFits ps db a t × CallFits ps t call

-- the tree of the node fits
abbrev pub NodeFits : Plugins → Database → Node → Type 0
NodeFits ps db node = OpFits ps db node.op node.ty

-- the tree that a statement assigns fits; the others have none
abbrev pub StatementFits : Plugins → Database → Statement → Type 0
StatementFits ps db (Assign name node) = NodeFits ps db node
StatementFits ps db (Print name order) = Unit {0}
StatementFits ps db (Store old new) = Unit {0}

-- each statement's trees fit
unfoldable pub ScriptFits : Plugins → Database → List Statement → Type 0
ScriptFits ps db [] = Unit {0}
ScriptFits ps db (s ∷ ss) = StatementFits ps db s × ScriptFits ps db ss

-- the tables, in their sequence, have the names and types that are known
unfoldable pub TablesOf : List Schema → List NamedTable → Type 0
TablesOf [] [] = Unit {0}
TablesOf [] (d ∷ ds) = ⊥
TablesOf (s ∷ ss) [] = ⊥
TablesOf (s ∷ ss) (d ∷ ds) = (d.name ≡ s.name) × IsTableOf s.ty d.table × TablesOf ss ds

-- what is known has tables, and the stored tables are of their types
pub record KnownHaveTables (db : Database) (known : List Schema) (tables : List NamedTable) : Type 0 where
  pub stored : TablesTyped db
  pub assigned : TablesOf known tables
