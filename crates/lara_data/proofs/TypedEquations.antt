-- What it is that an operator is typed.
use Rattle.std.proofs.Common.{◌≡◌, ◌<◌, true, Some, Ok, List, length, refl}
use Rattle.lara_data.specs.declared.arg.Call.{Call}
use Rattle.lara_data.specs.declared.arg.Def.{Def}
use Rattle.lara_data.specs.declared.arg.KeyDef.{KeyDef}
use Rattle.lara_data.specs.declared.arg.NamePair.{NamePair}
use Rattle.lara_data.specs.declared.expr.Expr.{Expr}
use Rattle.lara_data.specs.declared.node.Node.{Node}
use Rattle.lara_data.specs.declared.node.Op.TheVariants.{Load, Named, Literal, Join, Union, Agg, Map, Filter, Promote, Rename, Apply}
use Rattle.lara_data.specs.declared.schema.Schema.{Schema}
use Rattle.lara_data.specs.TableTypes.{Columns, are_columns}
use Rattle.lara_data.specs.Names.{Name}
use Rattle.lara_data.specs.Tables.{Entries}
use Rattle.lara_data.specs.TypeRules.{join_type, union_type, agg_type, map_type, filter_type, promote_type, rename_type}
use Rattle.lara_data.specs.TypedTrees.{type_named, IsLiteral, OpTyped}

pub typed_Load : (known : List Schema) (n : Name) (ty : Columns) → OpTyped known (Load n) ty ≡ (are_columns ty.keys ty.vals ≡ true)
unfolding OpTyped
typed_Load known n ty = refl

pub typed_Named : (known : List Schema) (n : Name) (ty : Columns) → OpTyped known (Named n) ty ≡ (type_named n known ≡ Some ty)
unfolding OpTyped
typed_Named known n ty = refl

pub typed_Literal : (known : List Schema) (es : Entries) (ty : Columns) → OpTyped known (Literal es) ty ≡ IsLiteral ty es
unfolding OpTyped
typed_Literal known es ty = refl

pub typed_Join : (known : List Schema) (a b : Node) (ty : Columns) → OpTyped known (Join a b) ty ≡ ((join_type a.ty b.ty ≡ Ok ty) × OpTyped known a.op a.ty × OpTyped known b.op b.ty)
unfolding OpTyped Rattle.lara_data.specs.declared.node.Op.TheBlock.hidden-the_row-Node-0 denote.Hole.Carrier.hidden
typed_Join known a b ty = refl

pub typed_Union : (known : List Schema) (a b : Node) (ty : Columns) → OpTyped known (Union a b) ty ≡ ((union_type a.ty b.ty ≡ Ok ty) × OpTyped known a.op a.ty × OpTyped known b.op b.ty)
unfolding OpTyped Rattle.lara_data.specs.declared.node.Op.TheBlock.hidden-the_row-Node-0 denote.Hole.Carrier.hidden
typed_Union known a b ty = refl

pub typed_Agg : (known : List Schema) (a : Node) (ks : List Name) (ty : Columns) → OpTyped known (Agg a ks) ty ≡ ((agg_type a.ty ks ≡ Ok ty) × OpTyped known a.op a.ty)
unfolding OpTyped Rattle.lara_data.specs.declared.node.Op.TheBlock.hidden-the_row-Node-0 denote.Hole.Carrier.hidden
typed_Agg known a ks ty = refl

pub typed_Map : (known : List Schema) (a : Node) (defs : List Def) (ty : Columns) → OpTyped known (Map a defs) ty ≡ ((0 < length defs) × (map_type a.ty defs ≡ Ok ty) × OpTyped known a.op a.ty)
unfolding OpTyped Rattle.lara_data.specs.declared.node.Op.TheBlock.hidden-the_row-Node-0 denote.Hole.Carrier.hidden
typed_Map known a defs ty = refl

pub typed_Filter : (known : List Schema) (a : Node) (test : Expr) (ty : Columns) → OpTyped known (Filter a test) ty ≡ ((filter_type a.ty test ≡ Ok ty) × OpTyped known a.op a.ty)
unfolding OpTyped Rattle.lara_data.specs.declared.node.Op.TheBlock.hidden-the_row-Node-0 denote.Hole.Carrier.hidden
typed_Filter known a test ty = refl

pub typed_Promote : (known : List Schema) (a : Node) (def : KeyDef) (ty : Columns) → OpTyped known (Promote a def) ty ≡ ((promote_type a.ty def ≡ Ok ty) × OpTyped known a.op a.ty)
unfolding OpTyped Rattle.lara_data.specs.declared.node.Op.TheBlock.hidden-the_row-Node-0 denote.Hole.Carrier.hidden
typed_Promote known a def ty = refl

pub typed_Rename : (known : List Schema) (a : Node) (pairs : List NamePair) (ty : Columns) → OpTyped known (Rename a pairs) ty ≡ ((rename_type a.ty pairs ≡ Ok ty) × OpTyped known a.op a.ty)
unfolding OpTyped Rattle.lara_data.specs.declared.node.Op.TheBlock.hidden-the_row-Node-0 denote.Hole.Carrier.hidden
typed_Rename known a pairs ty = refl

pub typed_Apply : (known : List Schema) (a : Node) (call : Call) (ty : Columns) → OpTyped known (Apply a call) ty ≡ ⊥
unfolding OpTyped Rattle.lara_data.specs.declared.node.Op.TheBlock.hidden-the_row-Node-0 denote.Hole.Carrier.hidden
typed_Apply known a call ty = refl

pub ruleset typed_rules = (typed_Load, typed_Named, typed_Literal, typed_Join, typed_Union, typed_Agg, typed_Map, typed_Filter, typed_Promote, typed_Rename, typed_Apply)
