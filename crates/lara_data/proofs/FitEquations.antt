-- What it is that an operator fits a database and plugins.
use Rattle.std.proofs.Common.{◌≡◌, List, refl}
use Rattle.lara_data.specs.declared.arg.Call.{Call}
use Rattle.lara_data.specs.declared.arg.Def.{Def}
use Rattle.lara_data.specs.declared.arg.KeyDef.{KeyDef}
use Rattle.lara_data.specs.declared.arg.NamePair.{NamePair}
use Rattle.lara_data.specs.declared.expr.Expr.{Expr}
use Rattle.lara_data.specs.declared.node.Node.{Node}
use Rattle.lara_data.specs.declared.node.Op.TheVariants.{Load, Named, Literal, Join, Union, Agg, Map, Filter, Promote, Rename, Apply}
use Rattle.lara_data.specs.TableTypes.{Columns}
use Rattle.lara_data.specs.Names.{Name}
use Rattle.lara_data.specs.Tables.{Entries}
use Rattle.lara_data.specs.Plugins.{Plugins, CallFits}
use Rattle.lara_data.specs.Denotations.{Database, table_named}
use Rattle.lara_data.specs.Fits.{LoadFits, OpFits, NodeFits}

pub fits_Load : (ps : Plugins) (db : Database) (n : Name) (ty : Columns) → OpFits ps db (Load n) ty ≡ LoadFits (table_named n db) ty
unfolding OpFits
fits_Load ps db n ty = refl

pub fits_Named : (ps : Plugins) (db : Database) (n : Name) (ty : Columns) → OpFits ps db (Named n) ty ≡ Unit {0}
unfolding OpFits
fits_Named ps db n ty = refl

pub fits_Literal : (ps : Plugins) (db : Database) (es : Entries) (ty : Columns) → OpFits ps db (Literal es) ty ≡ Unit {0}
unfolding OpFits
fits_Literal ps db es ty = refl

pub fits_Join : (ps : Plugins) (db : Database) (a b : Node) (ty : Columns) → OpFits ps db (Join a b) ty ≡ (NodeFits ps db a × NodeFits ps db b)
unfolding OpFits Rattle.lara_data.specs.declared.node.Op.TheBlock.hidden-the_row-Node-0 denote.Hole.Carrier.hidden
fits_Join ps db a b ty = refl

pub fits_Union : (ps : Plugins) (db : Database) (a b : Node) (ty : Columns) → OpFits ps db (Union a b) ty ≡ (NodeFits ps db a × NodeFits ps db b)
unfolding OpFits Rattle.lara_data.specs.declared.node.Op.TheBlock.hidden-the_row-Node-0 denote.Hole.Carrier.hidden
fits_Union ps db a b ty = refl

pub fits_Agg : (ps : Plugins) (db : Database) (a : Node) (ks : List Name) (ty : Columns) → OpFits ps db (Agg a ks) ty ≡ NodeFits ps db a
unfolding OpFits Rattle.lara_data.specs.declared.node.Op.TheBlock.hidden-the_row-Node-0 denote.Hole.Carrier.hidden
fits_Agg ps db a ks ty = refl

pub fits_Map : (ps : Plugins) (db : Database) (a : Node) (defs : List Def) (ty : Columns) → OpFits ps db (Map a defs) ty ≡ NodeFits ps db a
unfolding OpFits Rattle.lara_data.specs.declared.node.Op.TheBlock.hidden-the_row-Node-0 denote.Hole.Carrier.hidden
fits_Map ps db a defs ty = refl

pub fits_Filter : (ps : Plugins) (db : Database) (a : Node) (test : Expr) (ty : Columns) → OpFits ps db (Filter a test) ty ≡ NodeFits ps db a
unfolding OpFits Rattle.lara_data.specs.declared.node.Op.TheBlock.hidden-the_row-Node-0 denote.Hole.Carrier.hidden
fits_Filter ps db a test ty = refl

pub fits_Promote : (ps : Plugins) (db : Database) (a : Node) (def : KeyDef) (ty : Columns) → OpFits ps db (Promote a def) ty ≡ NodeFits ps db a
unfolding OpFits Rattle.lara_data.specs.declared.node.Op.TheBlock.hidden-the_row-Node-0 denote.Hole.Carrier.hidden
fits_Promote ps db a def ty = refl

pub fits_Rename : (ps : Plugins) (db : Database) (a : Node) (pairs : List NamePair) (ty : Columns) → OpFits ps db (Rename a pairs) ty ≡ NodeFits ps db a
unfolding OpFits Rattle.lara_data.specs.declared.node.Op.TheBlock.hidden-the_row-Node-0 denote.Hole.Carrier.hidden
fits_Rename ps db a pairs ty = refl

pub fits_Apply : (ps : Plugins) (db : Database) (a : Node) (call : Call) (ty : Columns) → OpFits ps db (Apply a call) ty ≡ (NodeFits ps db a × CallFits ps a.ty call)
unfolding OpFits Rattle.lara_data.specs.declared.node.Op.TheBlock.hidden-the_row-Node-0 denote.Hole.Carrier.hidden
fits_Apply ps db a call ty = refl

pub ruleset fits_rules = (fits_Load, fits_Named, fits_Literal, fits_Join, fits_Union, fits_Agg, fits_Map, fits_Filter, fits_Promote, fits_Rename, fits_Apply)
