-- How many nodes an operator has with those below it.
use Rattle.std.proofs.Common.{◌≡◌, ◌+◌, List, refl}
use Rattle.lara_data.specs.declared.arg.Call.{Call}
use Rattle.lara_data.specs.declared.arg.Def.{Def}
use Rattle.lara_data.specs.declared.arg.KeyDef.{KeyDef}
use Rattle.lara_data.specs.declared.arg.NamePair.{NamePair}
use Rattle.lara_data.specs.declared.expr.Expr.{Expr}
use Rattle.lara_data.specs.declared.node.Node.{Node}
use Rattle.lara_data.specs.declared.node.Op.TheVariants.{Load, Named, Literal, Join, Union, Agg, Map, Filter, Promote, Rename, Apply}
use Rattle.lara_data.specs.Names.{Name}
use Rattle.lara_data.specs.Tables.{Entries}
use Rattle.lara_data.specs.TreeSizes.{nodes}

pub nodes_Load : (n : Name) → nodes (Load n) ≡ 1
unfolding nodes
nodes_Load n = refl

pub nodes_Named : (n : Name) → nodes (Named n) ≡ 1
unfolding nodes
nodes_Named n = refl

pub nodes_Literal : (es : Entries) → nodes (Literal es) ≡ 1
unfolding nodes
nodes_Literal es = refl

pub nodes_Join : (a b : Node) → nodes (Join a b) ≡ 1 + (nodes a.op + nodes b.op)
unfolding nodes Rattle.lara_data.specs.declared.node.Op.TheBlock.hidden-the_row-Node-0 denote.Hole.Carrier.hidden
nodes_Join a b = refl

pub nodes_Union : (a b : Node) → nodes (Union a b) ≡ 1 + (nodes a.op + nodes b.op)
unfolding nodes Rattle.lara_data.specs.declared.node.Op.TheBlock.hidden-the_row-Node-0 denote.Hole.Carrier.hidden
nodes_Union a b = refl

pub nodes_Agg : (a : Node) (ks : List Name) → nodes (Agg a ks) ≡ 1 + nodes a.op
unfolding nodes Rattle.lara_data.specs.declared.node.Op.TheBlock.hidden-the_row-Node-0 denote.Hole.Carrier.hidden
nodes_Agg a ks = refl

pub nodes_Map : (a : Node) (defs : List Def) → nodes (Map a defs) ≡ 1 + nodes a.op
unfolding nodes Rattle.lara_data.specs.declared.node.Op.TheBlock.hidden-the_row-Node-0 denote.Hole.Carrier.hidden
nodes_Map a defs = refl

pub nodes_Filter : (a : Node) (test : Expr) → nodes (Filter a test) ≡ 1 + nodes a.op
unfolding nodes Rattle.lara_data.specs.declared.node.Op.TheBlock.hidden-the_row-Node-0 denote.Hole.Carrier.hidden
nodes_Filter a test = refl

pub nodes_Promote : (a : Node) (def : KeyDef) → nodes (Promote a def) ≡ 1 + nodes a.op
unfolding nodes Rattle.lara_data.specs.declared.node.Op.TheBlock.hidden-the_row-Node-0 denote.Hole.Carrier.hidden
nodes_Promote a def = refl

pub nodes_Rename : (a : Node) (pairs : List NamePair) → nodes (Rename a pairs) ≡ 1 + nodes a.op
unfolding nodes Rattle.lara_data.specs.declared.node.Op.TheBlock.hidden-the_row-Node-0 denote.Hole.Carrier.hidden
nodes_Rename a pairs = refl

pub nodes_Apply : (a : Node) (call : Call) → nodes (Apply a call) ≡ 1 + nodes a.op
unfolding nodes Rattle.lara_data.specs.declared.node.Op.TheBlock.hidden-the_row-Node-0 denote.Hole.Carrier.hidden
nodes_Apply a call = refl
