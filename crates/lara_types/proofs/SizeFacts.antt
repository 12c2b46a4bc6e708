-- A typed script has as many statements and as many nodes as its tree.
use Rattle.std.specs.Prelude.{◌≡◌, ◌+◌, List, [], ◌∷◌, length}
use Rattle.std.proofs.Common.{refl, sym, ap, ◌∙◌, suc}
use Rattle.std.proofs.lemmas.List.Sums.{sum_by-cons}
use Rattle.lara_data.specs.declared.arg.Def.{Def}
use Rattle.lara_data.specs.declared.arg.KeyDef.{KeyDef}
use Rattle.lara_data.specs.declared.arg.NamePair.{NamePair}
use Rattle.lara_data.specs.declared.expr.Expr.{Expr}
use Rattle.lara_data.specs.declared.node.Node.{Node}
use Rattle.lara_data.specs.declared.node.Op.TheVariants as to
use Rattle.lara_data.specs.declared.schema.Schema.{Schema}
use Rattle.lara_data.specs.declared.script.Statement.{Statement}
use Rattle.lara_data.specs.Plugins.{Plugins}
use Rattle.lara_data.specs.TreeSizes.{nodes}
use Rattle.lara_data.specs.TypedScripts.{known_after}
use Rattle.lara_data.proofs.SizeEquations.{nodes_Load, nodes_Named, nodes_Literal, nodes_Join, nodes_Union, nodes_Agg}
use Rattle.lara_syntax.specs.declared.ast.Ast.{Ast}
use Rattle.lara_syntax.specs.declared.ast.AstOp.{AstOp}
use Rattle.lara_syntax.specs.declared.ast.AstOp.TheBlock.{end_of-AstNode, more_of-AstNode}
use Rattle.lara_syntax.specs.declared.ast.AstOp.TheVariants.{Load, Named, Literal, Join', Union', Agg', Map', Filter', Promote', Rename', Apply'}
use Rattle.lara_syntax.specs.declared.ast.AstStatement.{AstStatement}
use Rattle.lara_syntax.specs.declared.ast.AstStatement.TheVariants as ast
use Rattle.lara_types.specs.Written.{plain, plain_expr, plain_defs, plain_key_def, plain_pairs}
use Rattle.lara_types.specs.HasTypes.{OpHas, StatementHas, StatementsHave, HasTypes}
use Rattle.lara_types.specs.Sizes.{written_nodes, nodes_written, nodes_typed, all_written, all_typed}

-- one node over another's
nodes_Map : (a : Node) (ds : List Def) → nodes (to.Map a ds) ≡ 1 + nodes a.op
unfolding nodes Rattle.lara_data.specs.declared.node.Op.TheBlock.hidden-the_row-Node-0 denote.Hole.Carrier.hidden
nodes_Map a ds = refl

nodes_Filter : (a : Node) (e : Expr) → nodes (to.Filter a e) ≡ 1 + nodes a.op
unfolding nodes Rattle.lara_data.specs.declared.node.Op.TheBlock.hidden-the_row-Node-0 denote.Hole.Carrier.hidden
nodes_Filter a e = refl

nodes_Promote : (a : Node) (d : KeyDef) → nodes (to.Promote a d) ≡ 1 + nodes a.op
unfolding nodes Rattle.lara_data.specs.declared.node.Op.TheBlock.hidden-the_row-Node-0 denote.Hole.Carrier.hidden
nodes_Promote a d = refl

nodes_Rename : (a : Node) (ps : List NamePair) → nodes (to.Rename a ps) ≡ 1 + nodes a.op
unfolding nodes Rattle.lara_data.specs.declared.node.Op.TheBlock.hidden-the_row-Node-0 denote.Hole.Carrier.hidden
nodes_Rename a ps = refl

-- a typed tree has as many nodes as what is written
same_nodes : (ps : Plugins) (stored known : List Schema) (tree : AstOp) (node : Node) → OpHas ps stored known tree node → nodes node.op ≡ written_nodes tree
unfolding OpHas written_nodes
same_nodes ps stored known (Load n) node h = ap nodes h.0 ∙ nodes_Load n.name
same_nodes ps stored known (Named n) node h = ap nodes h.0 ∙ nodes_Named n.name
same_nodes ps stored known (Literal ty es) node h = ap nodes h.op ∙ nodes_Literal h.entries
same_nodes ps stored known (Join' _ (more_of-AstNode i a end_of-AstNode) _ (more_of-AstNode j b end_of-AstNode)) node h =
    ap nodes h.2 ∙ nodes_Join h.0 h.1 ∙ (λ i. 1 + (same_nodes ps stored known a h.0 h.4 i + same_nodes ps stored known b h.1 h.5 i))
same_nodes ps stored known (Union' _ (more_of-AstNode i a end_of-AstNode) _ (more_of-AstNode j b end_of-AstNode)) node h =
    ap nodes h.2 ∙ nodes_Union h.0 h.1 ∙ (λ i. 1 + (same_nodes ps stored known a h.0 h.4 i + same_nodes ps stored known b h.1 h.5 i))
same_nodes ps stored known (Agg' _ (more_of-AstNode i a end_of-AstNode) ks) node h =
    ap nodes h.1 ∙ nodes_Agg h.0 (plain ks) ∙ ap (λ n. 1 + n) (same_nodes ps stored known a h.0 h.3)
same_nodes ps stored known (Map' _ (more_of-AstNode i a end_of-AstNode) ds) node h =
    ap nodes h.1 ∙ nodes_Map h.0 (plain_defs ds) ∙ ap (λ n. 1 + n) (same_nodes ps stored known a h.0 h.4)
same_nodes ps stored known (Filter' _ (more_of-AstNode i a end_of-AstNode) test) node h =
    ap nodes h.1 ∙ nodes_Filter h.0 (plain_expr test) ∙ ap (λ n. 1 + n) (same_nodes ps stored known a h.0 h.3)
same_nodes ps stored known (Promote' _ (more_of-AstNode i a end_of-AstNode) def) node h =
    ap nodes h.1 ∙ nodes_Promote h.0 (plain_key_def def) ∙ ap (λ n. 1 + n) (same_nodes ps stored known a h.0 h.3)
same_nodes ps stored known (Rename' _ (more_of-AstNode i a end_of-AstNode) pairs) node h =
    ap nodes h.1 ∙ nodes_Rename h.0 (plain_pairs pairs) ∙ ap (λ n. 1 + n) (same_nodes ps stored known a h.0 h.3)
same_nodes ps stored known (Apply' _ (more_of-AstNode i a end_of-AstNode) call) node h = absurd h

same_in_statement : (ps : Plugins) (stored known : List Schema) (x : AstStatement) (s : Statement) → StatementHas ps stored known x s → nodes_typed s ≡ nodes_written x
same_in_statement ps stored known (ast.Assign at name tree) s h = ap nodes_typed h.1 ∙ same_nodes ps stored known tree.op h.0 h.2
same_in_statement ps stored known (ast.Print at name by) s h = ap nodes_typed h.2
same_in_statement ps stored known (ast.Store at old new) s h = ap nodes_typed h.1

same_in_all : (ps : Plugins) (stored known : List Schema) (xs : List AstStatement) (ss : List Statement) → StatementsHave ps stored known xs ss → all_typed ss ≡ all_written xs
unfolding StatementsHave
same_in_all ps stored known [] [] h = refl
same_in_all ps stored known [] (s ∷ ss) h = absurd h
same_in_all ps stored known (x ∷ xs) [] h = absurd h
same_in_all ps stored known (x ∷ xs) (s ∷ ss) h =
    sum_by-cons nodes_typed s ss
    ∙ (λ i. same_in_statement ps stored known x s h.0 i + same_in_all ps stored (known_after known s) xs ss h.1 i)
    ∙ sym (sum_by-cons nodes_written x xs)

same_length : (ps : Plugins) (stored known : List Schema) (xs : List AstStatement) (ss : List Statement) → StatementsHave ps stored known xs ss → length ss ≡ length xs
unfolding StatementsHave
same_length ps stored known [] [] h = refl
same_length ps stored known [] (s ∷ ss) h = absurd h
same_length ps stored known (x ∷ xs) [] h = absurd h
same_length ps stored known (x ∷ xs) (s ∷ ss) h = ap suc (same_length ps stored (known_after known s) xs ss h.1)

-- a typed script has as many statements as its tree
pub as_many_statements : (ps : Plugins) (stored : List Schema) (tree : Ast) (ss : List Statement) → HasTypes ps stored tree ss → length ss ≡ length tree.statements
as_many_statements ps stored tree ss h = same_length ps stored [] tree.statements ss h

-- a typed script has as many nodes as its tree
pub as_many_nodes : (ps : Plugins) (stored : List Schema) (tree : Ast) (ss : List Statement) → HasTypes ps stored tree ss → all_typed ss ≡ all_written tree.statements
as_many_nodes ps stored tree ss h = same_in_all ps stored [] tree.statements ss h
