-- The typed script that is judged is what the tree stands for.
use Rattle.std.specs.Prelude.{◌≡◌, ℕ, List, [], ◌∷◌, ◌++◌, Option, Some, Ok}
use Rattle.std.proofs.Common.{refl, sym, ap, ◌∙◌, append_assoc, subst}
use Rattle.std.proofs.lemmas.List.{append-nil}
use Rattle.lara_data.specs.declared.node.Node.{Node}
use Rattle.lara_data.specs.declared.node.Op.TheVariants as to
use Rattle.lara_data.specs.declared.refusal.Kind.TheVariants.{NoTable, NoName}
use Rattle.lara_data.specs.declared.order.EachOp.TheVariants as each
use Rattle.lara_data.specs.declared.schema.Schema.{Schema}
use Rattle.lara_data.specs.declared.script.Statement.{Statement}
use Rattle.lara_data.specs.declared.script.Statement.TheVariants.{Assign, Print, Store}
use Rattle.lara_data.specs.Algebra.{join_columns, union_columns, agg_columns}
use Rattle.lara_data.specs.ExtensionLaws.{IsMap, IsFilter, IsPromote, IsRename}
use Rattle.lara_data.specs.Extensions.{each_columns, renamed_columns}
use Rattle.lara_data.specs.Names.{Name}
use Rattle.lara_data.specs.Plugins.{Plugins}
use Rattle.lara_data.specs.TableTypes.{Columns}
use Rattle.lara_data.specs.TypeRuleLaws.{IsJoin, IsUnion, IsAgg}
use Rattle.lara_data.specs.TypedScripts.{known_after}
use Rattle.lara_data.specs.TypedTrees.{type_named}
use Rattle.lara_syntax.specs.declared.ast.Ast.{Ast}
use Rattle.lara_syntax.specs.declared.ast.AstBy.{AstBy}
use Rattle.lara_syntax.specs.declared.ast.AstName.{AstName}
use Rattle.lara_syntax.specs.declared.ast.AstOp.{AstOp}
use Rattle.lara_syntax.specs.declared.ast.AstOp.TheBlock.{end_of-AstNode, more_of-AstNode}
use Rattle.lara_syntax.specs.declared.ast.AstOp.TheVariants.{Load, Named, Literal, Join', Union', Agg', Map', Filter', Promote', Rename', Apply'}
use Rattle.lara_syntax.specs.declared.ast.AstStatement.{AstStatement}
use Rattle.lara_syntax.specs.declared.ast.AstStatement.TheVariants as ast
use Rattle.lara_base.specs.Results.{◌>>=◌}
use Rattle.lara_types.specs.Answered.{ok_is, bind_ok_parts}
use Rattle.lara_types.specs.CheckedTrees.{typed, columns_in, joined, united, summed, mapped, filtered, promoted, renamed, checked_op, checked_node}
use Rattle.lara_types.specs.Checks.{order_in, printed, checked_statement, Progress, at_start, one_more, checked}
use Rattle.lara_types.specs.EachRuleLaws.{map_met, filter_met, promote_met, rename_met}
use Rattle.lara_types.specs.EachRules.{map_rules, filter_rules, promote_rules, rename_rules}
use Rattle.lara_types.specs.HasTypes.{OpHas, IsOrder, StatementHas, StatementsHave, HasTypes}
use Rattle.lara_types.specs.LiteralLaws.{literal_found}
use Rattle.lara_types.specs.NodeRuleLaws.{join_met, union_met, agg_met, known_met, order_met}
use Rattle.lara_types.specs.NodeRules.{known_rules, join_rules, union_rules, agg_rules, order_rules, print_rules}
use Rattle.lara_types.specs.RuleLaws.{met_parts, rules_met}
use Rattle.lara_types.specs.Rules.{AllMet}
use Rattle.lara_types.specs.Walks.{walk}
use Rattle.lara_types.specs.Written.{plain, plain_expr, plain_defs, plain_key_def, plain_pairs}

-- ---- trees

module _ (ps : Plugins) (stored known : List Schema) where
  pub op_found : (at : ℕ) (tree : AstOp) (node : Node) → checked_op ps stored known at tree ≡ Ok node → OpHas ps stored known tree node
  unfolding checked_op OpHas
  op_found at (Load n) node e =
      let found = type_named n.name stored in
      let p = rules_met (known_rules NoTable n found) (typed (columns_in found) (to.Load n.name)) node e in
      (ap (λ (m : Node). m.op) (sym p.1), known_met NoTable n found p.0 ∙ ap (λ (m : Node). Some m.ty) p.1)
  op_found at (Named n) node e =
      let found = type_named n.name known in
      let p = rules_met (known_rules NoName n found) (typed (columns_in found) (to.Named n.name)) node e in
      (ap (λ (m : Node). m.op) (sym p.1), known_met NoName n found p.0 ∙ ap (λ (m : Node). Some m.ty) p.1)
  op_found at (Literal ty es) node e = literal_found at ty es node e
  op_found at (Join' _ (more_of-AstNode i a end_of-AstNode) _ (more_of-AstNode j b end_of-AstNode)) node e =
      let x = bind_ok_parts (checked_op ps stored known i a) (λ x. checked_op ps stored known j b >>= λ y. joined at x y) node e in
      let y = bind_ok_parts (checked_op ps stored known j b) (λ y. joined at x.0 y) node x.2 in
      let p = rules_met (join_rules at x.0.ty y.0.ty) (typed (join_columns x.0.ty y.0.ty) (to.Join x.0 y.0)) node y.2 in
      (x.0, y.0, ap (λ (m : Node). m.op) (sym p.1), subst (λ (m : Node). IsJoin x.0.ty y.0.ty m.ty) p.1 (join_met at x.0.ty y.0.ty p.0), op_found i a x.0 x.1, op_found j b y.0 y.1)
  op_found at (Union' _ (more_of-AstNode i a end_of-AstNode) _ (more_of-AstNode j b end_of-AstNode)) node e =
      let x = bind_ok_parts (checked_op ps stored known i a) (λ x. checked_op ps stored known j b >>= λ y. united at x y) node e in
      let y = bind_ok_parts (checked_op ps stored known j b) (λ y. united at x.0 y) node x.2 in
      let p = rules_met (union_rules at x.0.ty y.0.ty) (typed (union_columns x.0.ty y.0.ty) (to.Union x.0 y.0)) node y.2 in
      (x.0, y.0, ap (λ (m : Node). m.op) (sym p.1), subst (λ (m : Node). IsUnion x.0.ty y.0.ty m.ty) p.1 (union_met at x.0.ty y.0.ty p.0), op_found i a x.0 x.1, op_found j b y.0 y.1)
  op_found at (Agg' _ (more_of-AstNode i a end_of-AstNode) ks) node e =
      let x = bind_ok_parts (checked_op ps stored known i a) (λ x. summed x ks) node e in
      let p = rules_met (agg_rules x.0.ty ks) (typed (agg_columns x.0.ty (plain ks)) (to.Agg x.0 (plain ks))) node x.2 in
      (x.0, ap (λ (m : Node). m.op) (sym p.1), subst (λ (m : Node). IsAgg x.0.ty (plain ks) m.ty) p.1 (agg_met x.0.ty ks p.0), op_found i a x.0 x.1)
  op_found at (Map' _ (more_of-AstNode i a end_of-AstNode) ds) node e =
      let x = bind_ok_parts (checked_op ps stored known i a) (λ x. mapped at x ds) node e in
      let p = rules_met (map_rules at x.0.ty ds) (typed (each_columns (each.Map (plain_defs ds)) x.0.ty) (to.Map x.0 (plain_defs ds))) node x.2 in
      let met = map_met at x.0.ty ds p.0 in
      (x.0, ap (λ (m : Node). m.op) (sym p.1), met.0, subst (λ (m : Node). IsMap x.0.ty (plain_defs ds) m.ty) p.1 met.1, op_found i a x.0 x.1)
  op_found at (Filter' _ (more_of-AstNode i a end_of-AstNode) test) node e =
      let x = bind_ok_parts (checked_op ps stored known i a) (λ x. filtered at x test) node e in
      let p = rules_met (filter_rules at x.0.ty test) (typed x.0.ty (to.Filter x.0 (plain_expr test))) node x.2 in
      (x.0, ap (λ (m : Node). m.op) (sym p.1), subst (λ (m : Node). IsFilter x.0.ty (plain_expr test) m.ty) p.1 (filter_met at x.0.ty test p.0), op_found i a x.0 x.1)
  op_found at (Promote' _ (more_of-AstNode i a end_of-AstNode) def) node e =
      let x = bind_ok_parts (checked_op ps stored known i a) (λ x. promoted at x def) node e in
      let p = rules_met (promote_rules at x.0.ty def) (typed (each_columns (each.Promote (plain_key_def def)) x.0.ty) (to.Promote x.0 (plain_key_def def))) node x.2 in
      (x.0, ap (λ (m : Node). m.op) (sym p.1), subst (λ (m : Node). IsPromote x.0.ty (plain_key_def def) m.ty) p.1 (promote_met at x.0.ty def p.0), op_found i a x.0 x.1)
  op_found at (Rename' _ (more_of-AstNode i a end_of-AstNode) pairs) node e =
      let x = bind_ok_parts (checked_op ps stored known i a) (λ x. renamed at x pairs) node e in
      let p = rules_met (rename_rules at x.0.ty pairs) (typed (renamed_columns (plain_pairs pairs) x.0.ty) (to.Rename x.0 (plain_pairs pairs))) node x.2 in
      (x.0, ap (λ (m : Node). m.op) (sym p.1), subst (λ (m : Node). IsRename x.0.ty (plain_pairs pairs) m.ty) p.1 (rename_met at x.0.ty pairs p.0), op_found i a x.0 x.1)
  op_found at (Apply' _ (more_of-AstNode i a end_of-AstNode) call) node e = cc

-- ---- scripts

-- a print that was judged
print_found : (known : List Schema) (name : AstName) (found : Option Columns) (by : Option AstBy) (s : Statement) → type_named name.name known ≡ found → printed name found by ≡ Ok s
    → (ty : Columns) × (order : List Name) × (s ≡ Print name.name order) × (type_named name.name known ≡ Some ty) × IsOrder ty by order
print_found known name found by s is e =
    let p = rules_met (print_rules name found by) (Print name.name (order_in (columns_in found) by)) s e in
    let m = met_parts (known_rules NoName name found) (order_rules found by) p.0 in
    let known_is = known_met NoName name found m.0 in
    (columns_in found, order_in (columns_in found) by, sym p.1, is ∙ known_is, order_met (columns_in found) by (subst (λ (o : Option Columns). AllMet (order_rules o by)) known_is m.1))

module _ (ps : Plugins) (stored : List Schema) where
  statement_found : (known : List Schema) (x : AstStatement) (s : Statement) → checked_statement ps stored known x ≡ Ok s → StatementHas ps stored known x s
  statement_found known (ast.Assign at name tree) s e =
      let p = bind_ok_parts (checked_node ps stored known tree) (λ node. Ok (Assign name.name node)) s e in
      (p.0, sym (ok_is (Assign name.name p.0) s p.2), op_found ps stored known tree.at tree.op p.0 p.1)
  statement_found known (ast.Print at name by) s e = print_found known name (type_named name.name known) by s refl e
  statement_found known (ast.Store at old new) s e =
      let found = type_named old.name known in
      let p = rules_met (known_rules NoName old found) (Store old.name new.name) s e in
      (columns_in found, sym p.1, known_met NoName old found p.0)

  pub one_found : (done next : Progress) (x : AstStatement) → one_more ps stored done x ≡ Ok next → (s : Statement) × (next.known ≡ known_after done.known s) × (next.statements ≡ done.statements ++ s ∷ []) × StatementHas ps stored done.known x s
  one_found done next x e =
      let p = bind_ok_parts (checked_statement ps stored done.known x) (λ s. Ok (record { known = known_after done.known s; statements = done.statements ++ s ∷ [] })) next e in
      let made = ok_is (record { known = known_after done.known p.0; statements = done.statements ++ p.0 ∷ [] }) next p.2 in
      (p.0, ap (λ (q : Progress). q.known) (sym made), ap (λ (q : Progress). q.statements) (sym made), statement_found done.known x p.0 p.1)

  -- the statements behind those so far
  all_found : (done last : Progress) (xs : List AstStatement) → walk (one_more ps stored) done xs ≡ Ok last → (ss : List Statement) × (last.statements ≡ done.statements ++ ss) × StatementsHave ps stored done.known xs ss
  unfolding walk StatementsHave
  all_found done last [] e = ([], ap (λ (p : Progress). p.statements) (sym (ok_is done last e)) ∙ sym (append-nil done.statements), tt)
  all_found done last (x ∷ xs) e =
      let p = bind_ok_parts (one_more ps stored done x) (λ t. walk (one_more ps stored) t xs) last e in
      let one = one_found done p.0 x p.1 in
      let rest = all_found p.0 last xs p.2 in
      (one.0 ∷ rest.0, behind done.statements p.0.statements last.statements rest.0 one.0 one.2 rest.1, (one.3, subst (λ known. StatementsHave ps stored known xs rest.0) one.1 rest.2))
    where
      behind : (before now all rest : List Statement) (s : Statement) → now ≡ before ++ s ∷ [] → all ≡ now ++ rest → all ≡ before ++ s ∷ rest
      behind before now all rest s e f = f ∙ ap (λ l. l ++ rest) e ∙ append_assoc before (s ∷ []) rest

-- the typed script that the rules judge is what the tree stands for
pub checked_has : (ps : Plugins) (stored : List Schema) (tree : Ast) (ss : List Statement) → checked ps stored tree ≡ Ok ss → HasTypes ps stored tree ss
unfolding checked
checked_has ps stored tree ss e =
    let p = bind_ok_parts (walk (one_more ps stored) at_start tree.statements) (λ done. Ok done.statements) ss e in
    let q = all_found ps stored at_start p.0 tree.statements p.1 in
    subst (StatementsHave ps stored [] tree.statements) (sym q.1 ∙ ok_is p.0.statements ss p.2) q.2
