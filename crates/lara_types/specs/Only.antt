-- Each typed script that a tree stands for is judged, so that there is one at most.
use Rattle.std.specs.Prelude.{◌≡◌, ℕ, List, [], ◌∷◌, ◌++◌, Some, Ok}
use Rattle.std.proofs.Common.{refl, sym, ap, ◌∙◌, append_assoc}
use Rattle.std.proofs.lemmas.List.{append-nil}
use Rattle.lara_data.specs.declared.node.Node.{Node}
use Rattle.lara_data.specs.declared.node.Op.{Op}
use Rattle.lara_data.specs.declared.node.Op.TheVariants as to
use Rattle.lara_data.specs.declared.refusal.Kind.TheVariants.{NoTable, NoName}
use Rattle.lara_data.specs.declared.order.EachOp.TheVariants as each
use Rattle.lara_data.specs.declared.schema.Schema.{Schema}
use Rattle.lara_data.specs.declared.script.Statement.{Statement}
use Rattle.lara_data.specs.declared.script.Statement.TheVariants.{Assign, Print, Store}
use Rattle.lara_data.specs.Algebra.{join_columns, union_columns, agg_columns}
use Rattle.lara_data.specs.Extensions.{each_columns, renamed_columns}
use Rattle.lara_data.specs.Plugins.{Plugins}
use Rattle.lara_data.specs.TableTypes.{Columns}
use Rattle.lara_data.specs.TypedScripts.{known_after, all_known}
use Rattle.lara_syntax.specs.declared.ast.Ast.{Ast}
use Rattle.lara_syntax.specs.declared.ast.AstOp.{AstOp}
use Rattle.lara_syntax.specs.declared.ast.AstOp.TheBlock.{end_of-AstNode, more_of-AstNode}
use Rattle.lara_syntax.specs.declared.ast.AstOp.TheVariants.{Load, Named, Literal, Join', Union', Agg', Map', Filter', Promote', Rename', Apply'}
use Rattle.lara_syntax.specs.declared.ast.AstStatement.{AstStatement}
use Rattle.lara_syntax.specs.declared.ast.AstStatement.TheVariants as ast
use Rattle.lara_base.specs.Results.{◌>>=◌}
use Rattle.lara_types.specs.Answered.{answered}
use Rattle.lara_types.specs.CheckedTrees.{typed, columns_in, joined, united, summed, mapped, filtered, promoted, renamed, checked_op}
use Rattle.lara_types.specs.Checks.{order_in, printed, kept, checked_statement, Progress, at_start, one_more, checked}
use Rattle.lara_types.specs.EachRuleLaws.{map_meets, filter_meets, promote_meets, rename_meets}
use Rattle.lara_types.specs.EachRules.{map_rules, filter_rules, promote_rules, rename_rules}
use Rattle.lara_types.specs.HasTypes.{OpHas, StatementHas, StatementsHave, HasTypes}
use Rattle.lara_types.specs.LiteralLaws.{literal_only}
use Rattle.lara_types.specs.NodeRuleLaws.{join_meets, union_meets, agg_meets, known_meets, order_meets}
use Rattle.lara_types.specs.NodeRules.{known_rules, join_rules, union_rules, agg_rules, order_rules, print_rules}
use Rattle.lara_types.specs.RuleLaws.{met_from, rules_answer}
use Rattle.lara_types.specs.Rules.{by_rules}
use Rattle.lara_types.specs.Walks.{walk}
use Rattle.lara_types.specs.Written.{plain, plain_expr, plain_defs, plain_key_def, plain_pairs}

-- ---- trees

-- a node of its columns is the node, by what its columns and its operator are
made_node : (ty : Columns) (op : Op) (node : Node) → ty ≡ node.ty → node.op ≡ op → answered (typed ty op) ≡ Ok node
made_node ty op node own is = λ i. answered (typed (own i) (sym is i))

module _ (ps : Plugins) (stored known : List Schema) where
  pub op_only : (at : ℕ) (tree : AstOp) (node : Node) → OpHas ps stored known tree node → checked_op ps stored known at tree ≡ Ok node
  unfolding checked_op OpHas
  op_only at (Load n) node h =
      (λ i. by_rules (known_rules NoTable n (h.1 i)) (typed (columns_in (h.1 i)) (to.Load n.name)))
      ∙ rules_answer (known_rules NoTable n (Some node.ty)) (typed node.ty (to.Load n.name)) (known_meets NoTable n node.ty)
      ∙ made_node node.ty (to.Load n.name) node refl h.0
  op_only at (Named n) node h =
      (λ i. by_rules (known_rules NoName n (h.1 i)) (typed (columns_in (h.1 i)) (to.Named n.name)))
      ∙ rules_answer (known_rules NoName n (Some node.ty)) (typed node.ty (to.Named n.name)) (known_meets NoName n node.ty)
      ∙ made_node node.ty (to.Named n.name) node refl h.0
  op_only at (Literal ty es) node h = literal_only at ty es node h
  op_only at (Join' _ (more_of-AstNode i a end_of-AstNode) _ (more_of-AstNode j b end_of-AstNode)) node h =
      (λ k. op_only i a h.0 h.4 k >>= λ x. checked_op ps stored known j b >>= λ y. joined at x y)
      ∙ (λ k. op_only j b h.1 h.5 k >>= λ y. joined at h.0 y)
      ∙ rules_answer (join_rules at h.0.ty h.1.ty) (typed (join_columns h.0.ty h.1.ty) (to.Join h.0 h.1)) (join_meets at h.0.ty h.1.ty node.ty h.3)
      ∙ made_node (join_columns h.0.ty h.1.ty) (to.Join h.0 h.1) node h.3.is h.2
  op_only at (Union' _ (more_of-AstNode i a end_of-AstNode) _ (more_of-AstNode j b end_of-AstNode)) node h =
      (λ k. op_only i a h.0 h.4 k >>= λ x. checked_op ps stored known j b >>= λ y. united at x y)
      ∙ (λ k. op_only j b h.1 h.5 k >>= λ y. united at h.0 y)
      ∙ rules_answer (union_rules at h.0.ty h.1.ty) (typed (union_columns h.0.ty h.1.ty) (to.Union h.0 h.1)) (union_meets at h.0.ty h.1.ty node.ty h.3)
      ∙ made_node (union_columns h.0.ty h.1.ty) (to.Union h.0 h.1) node h.3.is h.2
  op_only at (Agg' _ (more_of-AstNode i a end_of-AstNode) ks) node h =
      (λ k. op_only i a h.0 h.3 k >>= λ x. summed x ks)
      ∙ rules_answer (agg_rules h.0.ty ks) (typed (agg_columns h.0.ty (plain ks)) (to.Agg h.0 (plain ks))) (agg_meets h.0.ty ks node.ty h.2)
      ∙ made_node (agg_columns h.0.ty (plain ks)) (to.Agg h.0 (plain ks)) node h.2.is h.1
  op_only at (Map' _ (more_of-AstNode i a end_of-AstNode) ds) node h =
      (λ k. op_only i a h.0 h.4 k >>= λ x. mapped at x ds)
      ∙ rules_answer (map_rules at h.0.ty ds) (typed (each_columns (each.Map (plain_defs ds)) h.0.ty) (to.Map h.0 (plain_defs ds))) (map_meets at h.0.ty ds node.ty h.2 h.3)
      ∙ made_node (each_columns (each.Map (plain_defs ds)) h.0.ty) (to.Map h.0 (plain_defs ds)) node h.3.is h.1
  op_only at (Filter' _ (more_of-AstNode i a end_of-AstNode) test) node h =
      (λ k. op_only i a h.0 h.3 k >>= λ x. filtered at x test)
      ∙ rules_answer (filter_rules at h.0.ty test) (typed h.0.ty (to.Filter h.0 (plain_expr test))) (filter_meets at h.0.ty test node.ty h.2)
      ∙ made_node h.0.ty (to.Filter h.0 (plain_expr test)) node h.2.is h.1
  op_only at (Promote' _ (more_of-AstNode i a end_of-AstNode) def) node h =
      (λ k. op_only i a h.0 h.3 k >>= λ x. promoted at x def)
      ∙ rules_answer (promote_rules at h.0.ty def) (typed (each_columns (each.Promote (plain_key_def def)) h.0.ty) (to.Promote h.0 (plain_key_def def))) (promote_meets at h.0.ty def node.ty h.2)
      ∙ made_node (each_columns (each.Promote (plain_key_def def)) h.0.ty) (to.Promote h.0 (plain_key_def def)) node h.2.is h.1
  op_only at (Rename' _ (more_of-AstNode i a end_of-AstNode) pairs) node h =
      (λ k. op_only i a h.0 h.3 k >>= λ x. renamed at x pairs)
      ∙ rules_answer (rename_rules at h.0.ty pairs) (typed (renamed_columns (plain_pairs pairs) h.0.ty) (to.Rename h.0 (plain_pairs pairs))) (rename_meets at h.0.ty pairs node.ty h.2)
      ∙ made_node (renamed_columns (plain_pairs pairs) h.0.ty) (to.Rename h.0 (plain_pairs pairs)) node h.2.is h.1
  op_only at (Apply' _ (more_of-AstNode i a end_of-AstNode) call) node h = absurd h

-- ---- scripts

module _ (ps : Plugins) (stored : List Schema) where
  statement_only : (known : List Schema) (x : AstStatement) (s : Statement) → StatementHas ps stored known x s → checked_statement ps stored known x ≡ Ok s
  statement_only known (ast.Assign at name tree) s h =
      (λ i. op_only ps stored known tree.at tree.op h.0 h.2 i >>= λ node. answered (Assign name.name node)) ∙ ap answered (sym h.1)
  statement_only known (ast.Print at name by) s h =
      let o = order_meets h.0 by h.1 h.4 in
      (λ i. printed name (h.3 i) by)
      ∙ rules_answer (print_rules name (Some h.0) by) (Print name.name (order_in h.0 by)) (met_from (known_rules NoName name (Some h.0)) (order_rules (Some h.0) by) (known_meets NoName name h.0) o.0)
      ∙ (λ i. answered (Print name.name (o.1 i)))
      ∙ ap answered (sym h.2)
  statement_only known (ast.Store at old new) s h =
      (λ i. kept old (h.2 i) new)
      ∙ rules_answer (known_rules NoName old (Some h.0)) (Store old.name new.name) (known_meets NoName old h.0)
      ∙ ap answered (sym h.1)

  -- the statements behind those so far
  abbrev pub behind : Progress → List Statement → Progress
  behind done ss = record { known = all_known done.known ss; statements = done.statements ++ ss }

  pub all_only : (done : Progress) (xs : List AstStatement) (ss : List Statement) → StatementsHave ps stored done.known xs ss → walk (one_more ps stored) done xs ≡ Ok (behind done ss)
  unfolding walk StatementsHave all_known
  all_only done [] [] h = λ i. answered (record { known = done.known; statements = sym (append-nil done.statements) i })
  all_only done [] (s ∷ ss) h = absurd h
  all_only done (x ∷ xs) [] h = absurd h
  all_only done (x ∷ xs) (s ∷ ss) h =
      let next : Progress = record { known = known_after done.known s; statements = done.statements ++ s ∷ [] } in
      (λ i. (statement_only done.known x s h.0 i >>= λ r. answered (record { known = known_after done.known r; statements = done.statements ++ r ∷ [] })) >>= λ t. walk (one_more ps stored) t xs)
      ∙ all_only next xs ss h.1
      ∙ (λ i. answered (record { known = all_known (known_after done.known s) ss; statements = append_assoc done.statements (s ∷ []) ss i }))

-- the rules judge each typed script that a tree stands for
pub has_checked : (ps : Plugins) (stored : List Schema) (tree : Ast) (ss : List Statement) → HasTypes ps stored tree ss → checked ps stored tree ≡ Ok ss
unfolding checked
has_checked ps stored tree ss h = λ i. all_only ps stored at_start tree.statements ss h i >>= λ done. answered done.statements
