-- What the meaning of an operator is.
use Rattle.std.proofs.Common.{◌≡◌, List, refl}
use Rattle.lara_data.specs.declared.arg.Call.{Call}
use Rattle.lara_data.specs.declared.arg.Def.{Def}
use Rattle.lara_data.specs.declared.arg.KeyDef.{KeyDef}
use Rattle.lara_data.specs.declared.arg.NamePair.{NamePair}
use Rattle.lara_data.specs.declared.expr.Expr.{Expr}
use Rattle.lara_data.specs.declared.node.Node.{Node}
use Rattle.lara_data.specs.declared.node.Op.TheVariants.{Load, Named, Literal, Join, Union, Agg, Map, Filter, Promote, Rename, Apply}
use Rattle.lara_data.specs.declared.order.EachOp.TheVariants as each
use Rattle.lara_data.specs.TableTypes.{Columns}
use Rattle.lara_data.specs.Names.{Name}
use Rattle.lara_data.specs.Tables.{Entries, table_of}
use Rattle.lara_data.specs.Algebra.{join_tables, union_tables, agg_table}
use Rattle.lara_data.specs.Plugins.{Plugins}
use Rattle.lara_data.specs.Denotations.{NamedTable, Database, table_named, table_or_empty, meaning, meaning_of}
use Rattle.lara_data.specs.Extensions.{ext, renamed}

pub meaning_Load : (ps : Plugins) (db : Database) (tables : List NamedTable) (n : Name) (ty : Columns) → meaning ps db tables (Load n) ty ≡ table_or_empty ty (table_named n db)
unfolding meaning
meaning_Load ps db tables n ty = refl

pub meaning_Named : (ps : Plugins) (db : Database) (tables : List NamedTable) (n : Name) (ty : Columns) → meaning ps db tables (Named n) ty ≡ table_or_empty ty (table_named n tables)
unfolding meaning
meaning_Named ps db tables n ty = refl

pub meaning_Literal : (ps : Plugins) (db : Database) (tables : List NamedTable) (es : Entries) (ty : Columns) → meaning ps db tables (Literal es) ty ≡ table_of ty es
unfolding meaning
meaning_Literal ps db tables es ty = refl

pub meaning_Join : (ps : Plugins) (db : Database) (tables : List NamedTable) (a b : Node) (ty : Columns) → meaning ps db tables (Join a b) ty ≡ join_tables (meaning_of ps db tables a) (meaning_of ps db tables b)
unfolding meaning Rattle.lara_data.specs.declared.node.Op.TheBlock.hidden-the_row-Node-0 denote.Hole.Carrier.hidden
meaning_Join ps db tables a b ty = refl

pub meaning_Union : (ps : Plugins) (db : Database) (tables : List NamedTable) (a b : Node) (ty : Columns) → meaning ps db tables (Union a b) ty ≡ union_tables (meaning_of ps db tables a) (meaning_of ps db tables b)
unfolding meaning Rattle.lara_data.specs.declared.node.Op.TheBlock.hidden-the_row-Node-0 denote.Hole.Carrier.hidden
meaning_Union ps db tables a b ty = refl

pub meaning_Agg : (ps : Plugins) (db : Database) (tables : List NamedTable) (a : Node) (ks : List Name) (ty : Columns) → meaning ps db tables (Agg a ks) ty ≡ agg_table (meaning_of ps db tables a) ks
unfolding meaning Rattle.lara_data.specs.declared.node.Op.TheBlock.hidden-the_row-Node-0 denote.Hole.Carrier.hidden
meaning_Agg ps db tables a ks ty = refl

pub meaning_Map : (ps : Plugins) (db : Database) (tables : List NamedTable) (a : Node) (defs : List Def) (ty : Columns) → meaning ps db tables (Map a defs) ty ≡ ext ps (each.Map defs) (meaning_of ps db tables a)
unfolding meaning Rattle.lara_data.specs.declared.node.Op.TheBlock.hidden-the_row-Node-0 denote.Hole.Carrier.hidden
meaning_Map ps db tables a defs ty = refl

pub meaning_Filter : (ps : Plugins) (db : Database) (tables : List NamedTable) (a : Node) (test : Expr) (ty : Columns) → meaning ps db tables (Filter a test) ty ≡ ext ps (each.Filter test) (meaning_of ps db tables a)
unfolding meaning Rattle.lara_data.specs.declared.node.Op.TheBlock.hidden-the_row-Node-0 denote.Hole.Carrier.hidden
meaning_Filter ps db tables a test ty = refl

pub meaning_Promote : (ps : Plugins) (db : Database) (tables : List NamedTable) (a : Node) (def : KeyDef) (ty : Columns) → meaning ps db tables (Promote a def) ty ≡ ext ps (each.Promote def) (meaning_of ps db tables a)
unfolding meaning Rattle.lara_data.specs.declared.node.Op.TheBlock.hidden-the_row-Node-0 denote.Hole.Carrier.hidden
meaning_Promote ps db tables a def ty = refl

pub meaning_Rename : (ps : Plugins) (db : Database) (tables : List NamedTable) (a : Node) (pairs : List NamePair) (ty : Columns) → meaning ps db tables (Rename a pairs) ty ≡ renamed pairs (meaning_of ps db tables a)
unfolding meaning Rattle.lara_data.specs.declared.node.Op.TheBlock.hidden-the_row-Node-0 denote.Hole.Carrier.hidden
meaning_Rename ps db tables a pairs ty = refl

pub meaning_Apply : (ps : Plugins) (db : Database) (tables : List NamedTable) (a : Node) (call : Call) (ty : Columns) → meaning ps db tables (Apply a call) ty ≡ ext ps (each.Apply call) (meaning_of ps db tables a)
unfolding meaning Rattle.lara_data.specs.declared.node.Op.TheBlock.hidden-the_row-Node-0 denote.Hole.Carrier.hidden
meaning_Apply ps db tables a call ty = refl

pub ruleset meaning_rules = (meaning_Load, meaning_Named, meaning_Literal, meaning_Join, meaning_Union, meaning_Agg, meaning_Map, meaning_Filter, meaning_Promote, meaning_Rename, meaning_Apply)
