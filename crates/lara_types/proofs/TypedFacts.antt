-- What a tree with places stands for is typed.
use Rattle.std.specs.Prelude.{◌≡◌, true, false, cond, ◌==◌, fold, List, [], ◌∷◌, length, Option, Some, None}
use Rattle.std.specs.List.{list_all}
use Rattle.std.proofs.Common.{refl, sym, ap, ◌∙◌, arith, subst}
use Rattle.std.proofs.lemmas.Bool.{eq-eqb, and_from}
use Rattle.std.proofs.lemmas.List.{length-map}
use Rattle.lara_data.specs.declared.node.Node.{Node}
use Rattle.lara_data.specs.declared.node.Op.{Op}
use Rattle.lara_data.specs.declared.node.Op.TheVariants as to
use Rattle.lara_data.specs.declared.schema.Schema.{Schema}
use Rattle.lara_data.specs.declared.script.Statement.{Statement}
use Rattle.lara_data.specs.Names.{Name, same_name, has, among_itself}
use Rattle.lara_data.specs.Plugins.{Plugins}
use Rattle.lara_data.specs.TableTypes.{Columns, key_names, are_columns}
use Rattle.lara_data.specs.TypedScripts.{is_order, PrintTyped, StoreTyped, StatementTyped, known_after, AllTyped, ScriptTyped}
use Rattle.lara_data.specs.Newest.{newer, newest}
use Rattle.lara_data.specs.TypedTrees.{type_named, OpTyped}
use Rattle.lara_data.proofs.TypedEquations.{typed_Load, typed_Named, typed_Literal, typed_Join, typed_Union, typed_Agg, typed_Map, typed_Filter, typed_Promote, typed_Rename}
use Rattle.lara_syntax.specs.declared.ast.Ast.{Ast}
use Rattle.lara_syntax.specs.declared.ast.AstBy.{AstBy}
use Rattle.lara_syntax.specs.declared.ast.AstOp.{AstOp}
use Rattle.lara_syntax.specs.declared.ast.AstOp.TheBlock.{end_of-AstNode, more_of-AstNode}
use Rattle.lara_syntax.specs.declared.ast.AstOp.TheVariants.{Load, Named, Literal, Join', Union', Agg', Map', Filter', Promote', Rename', Apply'}
use Rattle.lara_syntax.specs.declared.ast.AstStatement.{AstStatement}
use Rattle.lara_syntax.specs.declared.ast.AstStatement.TheVariants as ast
use Rattle.lara_types.specs.Written.{plain, plain_def, plain_expr, plain_defs, plain_key_def, plain_pairs}
use Rattle.lara_types.specs.HasTypes.{OpHas, IsOrder, StatementHas, StatementsHave, HasTypes}
use Rattle.lara_types.specs.RuleTypes.{is_join_type, is_union_type, is_agg_type, is_map_type, is_filter_type, is_promote_type, is_rename_type}
use Rattle.lara_types.specs.StoredTypes.{AllColumns}
use Rattle.lara_types.proofs.ColumnFacts.{among_all}
use Rattle.lara_types.proofs.LiteralFacts.{is_literal}

-- ---- stored names

-- the columns, if there are any, are a table's
abbrev ColumnsIf : Option Columns → Type 0
ColumnsIf None = Unit {0}
ColumnsIf (Some ty) = are_columns ty.keys ty.vals ≡ true

-- the type of a name, where a later one may have it
abbrev newer_type : Name → Option Columns → Schema → Option Columns
newer_type n found s = newer (λ s. s.name) (λ s. s.ty) n found s

columns_from : (n : Name) (stored : List Schema) (found : Option Columns) → AllColumns stored → ColumnsIf found → ColumnsIf (fold (newer_type n) found stored)
unfolding AllColumns
columns_from n [] found h f = f
columns_from n (s ∷ stored) found h f =
    columns_from n stored (newer_type n found s) h.1 (elim (same_name n s.name) as (λ b. ColumnsIf (cond b (Some s.ty) found)) [ true ↦ h.0 | false ↦ f ])

-- a stored name's columns are a table's
columns_named : (n : Name) (stored : List Schema) (ty : Columns) → AllColumns stored → type_named n stored ≡ Some ty → are_columns ty.keys ty.vals ≡ true
unfolding newest
columns_named n stored ty h e = subst ColumnsIf e (columns_from n stored None h tt)

-- ---- trees

module _ (ps : Plugins) (stored : List Schema) (of_stored : AllColumns stored) (known : List Schema) where
  -- the operator is typed, by what it is and what it is to be typed
  typed_by : (op made : Op) (ty : Columns) (Typed : Type 0) → op ≡ made → OpTyped known made ty ≡ Typed → Typed → OpTyped known op ty
  typed_by op made ty Typed is e t = subst (λ (o : Op). OpTyped known o ty) (sym is) (subst (λ (T : Type 0). T) (sym e) t)

  op_typed : (tree : AstOp) (node : Node) → OpHas ps stored known tree node → OpTyped known node.op node.ty
  unfolding OpHas
  op_typed (Load n) node h = typed_by node.op (to.Load n.name) node.ty _ h.0 (typed_Load known n.name node.ty) (columns_named n.name stored node.ty of_stored h.1)
  op_typed (Named n) node h = typed_by node.op (to.Named n.name) node.ty _ h.0 (typed_Named known n.name node.ty) h.1
  op_typed (Literal ty es) node h = typed_by node.op (to.Literal h.entries) node.ty _ h.op (typed_Literal known h.entries node.ty) (is_literal ty es node h)
  op_typed (Join' _ (more_of-AstNode i a end_of-AstNode) _ (more_of-AstNode j b end_of-AstNode)) node h =
      typed_by node.op (to.Join h.0 h.1) node.ty _ h.2 (typed_Join known h.0 h.1 node.ty) (is_join_type h.0.ty h.1.ty node.ty h.3, op_typed a h.0 h.4, op_typed b h.1 h.5)
  op_typed (Union' _ (more_of-AstNode i a end_of-AstNode) _ (more_of-AstNode j b end_of-AstNode)) node h =
      typed_by node.op (to.Union h.0 h.1) node.ty _ h.2 (typed_Union known h.0 h.1 node.ty) (is_union_type h.0.ty h.1.ty node.ty h.3, op_typed a h.0 h.4, op_typed b h.1 h.5)
  op_typed (Agg' _ (more_of-AstNode i a end_of-AstNode) ks) node h =
      typed_by node.op (to.Agg h.0 (plain ks)) node.ty _ h.1 (typed_Agg known h.0 (plain ks) node.ty) (is_agg_type h.0.ty (plain ks) node.ty h.2, op_typed a h.0 h.3)
  op_typed (Map' _ (more_of-AstNode i a end_of-AstNode) ds) node h =
      typed_by node.op (to.Map h.0 (plain_defs ds)) node.ty _ h.1 (typed_Map known h.0 (plain_defs ds) node.ty) (omega (arith, h.2, length-map ds plain_def), is_map_type h.0.ty (plain_defs ds) node.ty h.3, op_typed a h.0 h.4)
  op_typed (Filter' _ (more_of-AstNode i a end_of-AstNode) test) node h =
      typed_by node.op (to.Filter h.0 (plain_expr test)) node.ty _ h.1 (typed_Filter known h.0 (plain_expr test) node.ty) (is_filter_type h.0.ty (plain_expr test) node.ty h.2, op_typed a h.0 h.3)
  op_typed (Promote' _ (more_of-AstNode i a end_of-AstNode) def) node h =
      typed_by node.op (to.Promote h.0 (plain_key_def def)) node.ty _ h.1 (typed_Promote known h.0 (plain_key_def def) node.ty) (is_promote_type h.0.ty (plain_key_def def) node.ty h.2, op_typed a h.0 h.3)
  op_typed (Rename' _ (more_of-AstNode i a end_of-AstNode) pairs) node h =
      typed_by node.op (to.Rename h.0 (plain_pairs pairs)) node.ty _ h.1 (typed_Rename known h.0 (plain_pairs pairs) node.ty) (is_rename_type h.0.ty (plain_pairs pairs) node.ty h.2, op_typed a h.0 h.3)
  op_typed (Apply' _ (more_of-AstNode i a end_of-AstNode) call) node h = absurd h

-- ---- scripts

-- the declared order is an order
declared_order : (keys : List Name) → is_order keys keys ≡ true
unfolding is_order
declared_order keys = and_from (length keys == length keys) (list_all (has keys) keys) (eq-eqb (length keys) (length keys) refl) (sym (among_all keys keys) ∙ among_itself keys)

-- a print's order has each key column once
order_typed : (ty : Columns) (by : Option AstBy) (order : List Name) → IsOrder ty by order → is_order order (key_names ty.keys) ≡ true
order_typed ty None order h = ap (λ o. is_order o (key_names ty.keys)) h ∙ declared_order (key_names ty.keys)
order_typed ty (Some by) order h = h.1

module _ (ps : Plugins) (stored : List Schema) (of_stored : AllColumns stored) where
  statement_typed : (known : List Schema) (x : AstStatement) (s : Statement) → StatementHas ps stored known x s → StatementTyped known s
  statement_typed known (ast.Assign at name tree) s h = subst (StatementTyped known) (sym h.1) (op_typed ps stored of_stored known tree.op h.0 h.2)
  statement_typed known (ast.Print at name by) s h =
      subst (StatementTyped known) (sym h.2) (subst (λ (t : Option Columns). PrintTyped t h.1) (sym h.3) (order_typed h.0 by h.1 h.4))
  statement_typed known (ast.Store at old new) s h = subst (StatementTyped known) (sym h.1) (subst StoreTyped (sym h.2) tt)

  all_are_typed : (known : List Schema) (xs : List AstStatement) (ss : List Statement) → StatementsHave ps stored known xs ss → AllTyped known ss
  unfolding StatementsHave AllTyped
  all_are_typed known [] [] h = tt
  all_are_typed known [] (s ∷ ss) h = absurd h
  all_are_typed known (x ∷ xs) [] h = absurd h
  all_are_typed known (x ∷ xs) (s ∷ ss) h = (statement_typed known x s h.0, all_are_typed (known_after known s) xs ss h.1)

-- the typed script that a tree stands for is typed, where the stored types have the columns of tables
pub has_typed : (ps : Plugins) (stored : List Schema) (tree : Ast) (ss : List Statement) → AllColumns stored → HasTypes ps stored tree ss → ScriptTyped ss
has_typed ps stored tree ss c h = all_are_typed ps stored c [] tree.statements ss h
