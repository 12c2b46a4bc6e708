-- What is refused is judged so, and what is judged refused is refused, so that there is one refusal at most.
use Rattle.std.specs.Prelude.{◌≡◌, ℕ, List, [], ◌∷◌, ◌++◌, map, Ok, Err}
use Rattle.std.proofs.Common.{refl, sym, ap, subst, ◌∙◌}
use Rattle.lara_data.specs.declared.node.Node.{Node}
use Rattle.lara_data.specs.declared.node.Op.TheVariants as to
use Rattle.lara_data.specs.declared.refusal.Kind.TheVariants.{NoName}
use Rattle.lara_data.specs.declared.refusal.Refusal.{Refusal}
use Rattle.lara_data.specs.declared.refusal.ReadFault.{ReadFault}
use Rattle.lara_data.specs.declared.refusal.ReadFault.TheVariants as faults
use Rattle.lara_data.specs.declared.order.EachOp.TheVariants as each
use Rattle.lara_data.specs.declared.schema.Schema.{Schema}
use Rattle.lara_data.specs.declared.script.Statement.{Statement}
use Rattle.lara_data.specs.declared.script.Statement.TheVariants.{Assign, Print, Store}
use Rattle.lara_data.specs.Algebra.{join_columns, union_columns, agg_columns}
use Rattle.lara_data.specs.Extensions.{each_columns, renamed_columns}
use Rattle.lara_data.specs.Judgements.{Judged, FaultJudges}
use Rattle.lara_data.specs.Plugins.{Plugins}
use Rattle.lara_data.specs.TableTypes.{Columns}
use Rattle.lara_data.specs.TypedScripts.{known_after, all_known}
use Rattle.lara_data.specs.TypedTrees.{type_named}
use Rattle.lara_syntax.specs.declared.ast.Ast.{Ast}
use Rattle.lara_syntax.specs.declared.ast.AstNode.{AstNode}
use Rattle.lara_syntax.specs.declared.ast.AstOp.{AstOp}
use Rattle.lara_syntax.specs.declared.ast.AstOp.TheBlock.{end_of-AstNode, more_of-AstNode}
use Rattle.lara_syntax.specs.declared.ast.AstOp.TheVariants.{Load, Named, Literal, Join', Union', Agg', Map', Filter', Promote', Rename', Apply'}
use Rattle.lara_syntax.specs.declared.ast.AstStatement.{AstStatement}
use Rattle.lara_syntax.specs.declared.ast.AstStatement.TheVariants as ast
use Rattle.lara_base.specs.Results.{◌>>=◌}
use Rattle.lara_types.specs.Answered.{answered}
use Rattle.lara_types.specs.CheckedTrees.{typed, columns_in, joined, united, summed, mapped, filtered, promoted, renamed, checked_op, checked_node}
use Rattle.lara_types.specs.Checks.{order_in, checked_statement, Progress, at_start, one_more, checked}
use Rattle.lara_types.specs.Found.{op_found, one_found}
use Rattle.lara_types.specs.HasTypes.{StatementHas, StatementsHave, HasTypes}
use Rattle.lara_types.specs.LiteralValues.{entry_value}
use Rattle.lara_types.specs.NodeRules.{known_rules, print_rules, rules_of}
use Rattle.lara_types.specs.Only.{op_only, all_only, behind, has_checked}
use Rattle.lara_types.specs.Refused.{operands, NodesHave, NodeRefused, here, below, StatementRefused, Refused, at_statement, RefusedRight}
use Rattle.lara_types.specs.RuleLaws.{broken_is, is_broken, rules_refused, rules_refuse}
use Rattle.lara_types.specs.Rules.{by_rules, first_broken}
use Rattle.lara_types.specs.WalkLaws.{walk-append}
use Rattle.lara_types.specs.Walks.{walk}
use Rattle.lara_types.specs.Written.{plain, columns, plain_expr, plain_defs, plain_key_def, plain_pairs}

-- ---- a node, by its operands

-- two steps, one after the other
two_steps : {A : Type 0} (p q : Judged A) (f : A → A → Judged A) (g : List A → Judged A) → ((x y : A) → f x y ≡ g (x ∷ y ∷ [])) → (p >>= λ x. q >>= λ y. f x y) ≡ ((p >>= λ x. (q >>= λ y. answered (y ∷ [])) >>= λ ys. answered (x ∷ ys)) >>= g)
two_steps (Ok x) (Ok y) f g h = h x y
two_steps (Ok x) (Err r) f g h = refl
two_steps (Err r) q f g h = refl

one_step : {A : Type 0} (p : Judged A) (f : A → Judged A) (g : List A → Judged A) → ((x : A) → f x ≡ g (x ∷ [])) → (p >>= f) ≡ ((p >>= λ x. answered (x ∷ [])) >>= g)
one_step (Ok x) f g h = h x
one_step (Err r) f g h = refl

module _ (ps : Plugins) (stored known : List Schema) where
  -- the operands, one after the other
  unfoldable pub nodes_of : List AstNode → Judged (List Node)
  nodes_of [] = Ok []
  nodes_of (t ∷ ts) = checked_node ps stored known t >>= λ n. nodes_of ts >>= λ ns. Ok (n ∷ ns)

  -- the node over them, where its rules are met
  unfoldable pub made : AstOp → List Node → Node
  made (Load n) ns = typed (columns_in (type_named n.name stored)) (to.Load n.name)
  made (Named n) ns = typed (columns_in (type_named n.name known)) (to.Named n.name)
  made (Literal ty es) ns = typed (columns ty) (to.Literal (map (entry_value (columns ty)) es))
  made (Join' _ x _ y) (a ∷ b ∷ []) = typed (join_columns a.ty b.ty) (to.Join a b)
  made (Union' _ x _ y) (a ∷ b ∷ []) = typed (union_columns a.ty b.ty) (to.Union a b)
  made (Agg' _ x ks) (a ∷ []) = typed (agg_columns a.ty (plain ks)) (to.Agg a (plain ks))
  made (Map' _ x ds) (a ∷ []) = typed (each_columns (each.Map (plain_defs ds)) a.ty) (to.Map a (plain_defs ds))
  made (Filter' _ x e) (a ∷ []) = typed a.ty (to.Filter a (plain_expr e))
  made (Promote' _ x d) (a ∷ []) = typed (each_columns (each.Promote (plain_key_def d)) a.ty) (to.Promote a (plain_key_def d))
  made (Rename' _ x pairs) (a ∷ []) = typed (renamed_columns (plain_pairs pairs) a.ty) (to.Rename a (plain_pairs pairs))
  made op ns = typed (record { keys = []; vals = [] }) (to.Load [])

  -- the columns of nodes
  abbrev pub types_of : List Node → List Columns
  types_of ns = map (λ n. n.ty) ns

  -- what the rules of a node answer over its operands
  abbrev pub over : ℕ → AstOp → List Node → Judged Node
  over at op ns = by_rules (rules_of ps stored known at op (types_of ns)) (made op ns)

  by_operands : (at : ℕ) (op : AstOp) → checked_op ps stored known at op ≡ (nodes_of (operands op) >>= over at op)
  unfolding checked_op nodes_of made operands rules_of first_broken
  by_operands at (Load n) = refl
  by_operands at (Named n) = refl
  by_operands at (Literal ty es) = refl
  by_operands at (Join' _ (more_of-AstNode i a end_of-AstNode) _ (more_of-AstNode j b end_of-AstNode)) = two_steps (checked_op ps stored known i a) (checked_op ps stored known j b) (joined at) _ (λ x y. refl)
  by_operands at (Union' _ (more_of-AstNode i a end_of-AstNode) _ (more_of-AstNode j b end_of-AstNode)) = two_steps (checked_op ps stored known i a) (checked_op ps stored known j b) (united at) _ (λ x y. refl)
  by_operands at (Agg' _ (more_of-AstNode i a end_of-AstNode) ks) = one_step (checked_op ps stored known i a) (λ x. summed x ks) _ (λ x. refl)
  by_operands at (Map' _ (more_of-AstNode i a end_of-AstNode) defs) = one_step (checked_op ps stored known i a) (λ x. mapped at x defs) _ (λ x. refl)
  by_operands at (Filter' _ (more_of-AstNode i a end_of-AstNode) test) = one_step (checked_op ps stored known i a) (λ x. filtered at x test) _ (λ x. refl)
  by_operands at (Promote' _ (more_of-AstNode i a end_of-AstNode) def) = one_step (checked_op ps stored known i a) (λ x. promoted at x def) _ (λ x. refl)
  by_operands at (Rename' _ (more_of-AstNode i a end_of-AstNode) pairs) = one_step (checked_op ps stored known i a) (λ x. renamed at x pairs) _ (λ x. refl)
  by_operands at (Apply' _ (more_of-AstNode i a end_of-AstNode) call) = refl

  -- ---- what is refused is judged so

  nodes_only : (ts : List AstNode) (ns : List Node) → NodesHave ps stored known ts ns → nodes_of ts ≡ Ok ns
  unfolding nodes_of NodesHave
  nodes_only [] [] h = refl
  nodes_only [] (n ∷ ns) h = absurd h
  nodes_only (t ∷ ts) [] h = absurd h
  nodes_only (t ∷ ts) (n ∷ ns) h = (λ i. op_only ps stored known t.at t.op n h.0 i >>= λ m. nodes_of ts >>= λ ms. answered (m ∷ ms)) ∙ (λ i. nodes_only ts ns h.1 i >>= λ ms. answered (n ∷ ms))

  nodes_stop : (before : List AstNode) (bad : AstNode) (after : List AstNode) (ns : List Node) (r : Refusal) → NodesHave ps stored known before ns → checked_node ps stored known bad ≡ Err r → nodes_of (before ++ bad ∷ after) ≡ Err r
  unfolding nodes_of NodesHave
  nodes_stop [] bad after [] r h e = λ i. e i >>= λ m. nodes_of after >>= λ ms. answered (m ∷ ms)
  nodes_stop [] bad after (n ∷ ns) r h e = absurd h
  nodes_stop (t ∷ ts) bad after [] r h e = absurd h
  nodes_stop (t ∷ ts) bad after (n ∷ ns) r h e = (λ i. op_only ps stored known t.at t.op n h.0 i >>= λ m. nodes_of (ts ++ bad ∷ after) >>= λ ms. answered (m ∷ ms)) ∙ (λ i. nodes_stop ts bad after ns r h.1 e i >>= λ ms. answered (n ∷ ms))

  pub node_judged : (t : AstNode) (r : Refusal) → NodeRefused ps stored known t r → checked_node ps stored known t ≡ Err r
  node_judged t r (here _ ns _ h f) =
      by_operands t.at t.op
      ∙ (λ i. nodes_only (operands t.op) ns h i >>= over t.at t.op)
      ∙ rules_refuse (rules_of ps stored known t.at t.op (types_of ns)) (made t.op ns) r (broken_is (rules_of ps stored known t.at t.op (types_of ns)) r f)
  node_judged t r (below _ bad before after ns _ e h d) =
      by_operands t.at t.op
      ∙ (λ i. nodes_of (e i) >>= over t.at t.op)
      ∙ (λ i. nodes_stop before bad after ns r h (node_judged bad r d) i >>= over t.at t.op)

  -- ---- what is judged so is refused

  -- it holds of each operand
  unfoldable Each : List AstNode → Type 0
  Each [] = Unit {0}
  Each (t ∷ ts) = ((r : Refusal) → checked_node ps stored known t ≡ Err r → NodeRefused ps stored known t r) × Each ts

  record Below (ts : List AstNode) (r : Refusal) : Type 0 where
    before : List AstNode
    bad : AstNode
    after : List AstNode
    nodes : List Node
    parts : ts ≡ before ++ bad ∷ after
    have : NodesHave ps stored known before nodes
    refuses : NodeRefused ps stored known bad r

  nodes_found : (ts : List AstNode) (ns : List Node) → nodes_of ts ≡ Ok ns → NodesHave ps stored known ts ns
  unfolding nodes_of NodesHave
  nodes_found [] ns e = let z : [] ≡ ns = cc in subst (λ ms. NodesHave ps stored known [] ms) z tt
  nodes_found (t ∷ ts) ns e = by_node (checked_node ps stored known t) refl (nodes_of ts) refl e (λ ms q. nodes_found ts ms q)
    where
      by_node : (p : Judged Node) → checked_node ps stored known t ≡ p → (q : Judged (List Node)) → nodes_of ts ≡ q → (p >>= λ m. q >>= λ ms. Ok (m ∷ ms)) ≡ Ok ns → ((ms : List Node) → nodes_of ts ≡ Ok ms → NodesHave ps stored known ts ms) → NodesHave ps stored known (t ∷ ts) ns
      by_node (Ok m) a (Ok ms) b e on = let z : m ∷ ms ≡ ns = cc in subst (λ ms. NodesHave ps stored known (t ∷ ts) ms) z (op_found ps stored known t.at t.op m a, on ms b)
      by_node (Ok m) a (Err r) b e on = absurd cc
      by_node (Err r) a q b e on = absurd cc

  nodes_refused : (ts : List AstNode) (r : Refusal) → nodes_of ts ≡ Err r → Each ts → Below ts r
  unfolding nodes_of Each NodesHave
  nodes_refused [] r e each = absurd cc
  nodes_refused (t ∷ ts) r e each = by_node (checked_node ps stored known t) refl (nodes_of ts) refl e (λ q. nodes_refused ts r q each.1)
    where
      by_node : (p : Judged Node) → checked_node ps stored known t ≡ p → (q : Judged (List Node)) → nodes_of ts ≡ q → (p >>= λ m. q >>= λ ms. Ok (m ∷ ms)) ≡ Err r → (nodes_of ts ≡ Err r → Below ts r) → Below (t ∷ ts) r
      by_node (Ok m) a (Ok ms) b e on = absurd cc
      by_node (Ok m) a (Err s) b e on =
          let z : s ≡ r = cc in
          let d = on (b ∙ ap (λ (x : Refusal). Err x) z) in
          record { before = t ∷ d.before; bad = d.bad; after = d.after; nodes = m ∷ d.nodes; parts = ap (λ us. t ∷ us) d.parts; have = (op_found ps stored known t.at t.op m a, d.have); refuses = d.refuses }
      by_node (Err s) a q b e on =
          let z : s ≡ r = cc in
          record { before = []; bad = t; after = ts; nodes = []; parts = refl; have = tt; refuses = each.0 r (a ∙ ap (λ (x : Refusal). Err x) z) }

  by_nodes : (t : AstNode) (r : Refusal) (p : Judged (List Node)) → nodes_of (operands t.op) ≡ p → (p >>= over t.at t.op) ≡ Err r → Each (operands t.op) → NodeRefused ps stored known t r
  by_nodes t r (Ok ns) e f each =
      here t ns r (nodes_found (operands t.op) ns e) (is_broken (rules_of ps stored known t.at t.op (types_of ns)) r (rules_refused (rules_of ps stored known t.at t.op (types_of ns)) (made t.op ns) r f))
  by_nodes t r (Err s) e f each =
      let z : s ≡ r = cc in
      let d = nodes_refused (operands t.op) r (e ∙ ap (λ (x : Refusal). Err x) z) each in
      below t d.bad d.before d.after d.nodes r d.parts d.have d.refuses

  step : (at : ℕ) (op : AstOp) (r : Refusal) → checked_op ps stored known at op ≡ Err r → Each (operands op) → NodeRefused ps stored known (record { at = at; op = op }) r
  step at op r e each = by_nodes (record { at = at; op = op }) r (nodes_of (operands op)) refl (sym (by_operands at op) ∙ e) each

  pub op_refused : (at : ℕ) (op : AstOp) (r : Refusal) → checked_op ps stored known at op ≡ Err r → NodeRefused ps stored known (record { at = at; op = op }) r
  unfolding operands Each
  op_refused at (Load n) r e = step at (Load n) r e tt
  op_refused at (Named n) r e = step at (Named n) r e tt
  op_refused at (Literal ty es) r e = step at (Literal ty es) r e tt
  op_refused at (Join' p (more_of-AstNode i a end_of-AstNode) q (more_of-AstNode j b end_of-AstNode)) r e =
      step at (Join' p (more_of-AstNode i a end_of-AstNode) q (more_of-AstNode j b end_of-AstNode)) r e ((λ s d. op_refused i a s d), ((λ s d. op_refused j b s d), tt))
  op_refused at (Union' p (more_of-AstNode i a end_of-AstNode) q (more_of-AstNode j b end_of-AstNode)) r e =
      step at (Union' p (more_of-AstNode i a end_of-AstNode) q (more_of-AstNode j b end_of-AstNode)) r e ((λ s d. op_refused i a s d), ((λ s d. op_refused j b s d), tt))
  op_refused at (Agg' p (more_of-AstNode i a end_of-AstNode) ks) r e = step at (Agg' p (more_of-AstNode i a end_of-AstNode) ks) r e ((λ s d. op_refused i a s d), tt)
  op_refused at (Map' p (more_of-AstNode i a end_of-AstNode) ds) r e = step at (Map' p (more_of-AstNode i a end_of-AstNode) ds) r e ((λ s d. op_refused i a s d), tt)
  op_refused at (Filter' p (more_of-AstNode i a end_of-AstNode) test) r e = step at (Filter' p (more_of-AstNode i a end_of-AstNode) test) r e ((λ s d. op_refused i a s d), tt)
  op_refused at (Promote' p (more_of-AstNode i a end_of-AstNode) def) r e = step at (Promote' p (more_of-AstNode i a end_of-AstNode) def) r e ((λ s d. op_refused i a s d), tt)
  op_refused at (Rename' p (more_of-AstNode i a end_of-AstNode) pairs) r e = step at (Rename' p (more_of-AstNode i a end_of-AstNode) pairs) r e ((λ s d. op_refused i a s d), tt)
  op_refused at op r e = step at op r e tt

-- ---- statements

module _ (ps : Plugins) (stored known : List Schema) where
  pub statement_judged : (x : AstStatement) (r : Refusal) → StatementRefused ps stored known x r → checked_statement ps stored known x ≡ Err r
  statement_judged (ast.Assign at name tree) r h = λ i. node_judged ps stored known tree r h i >>= λ table. answered (Assign name.name table)
  statement_judged (ast.Print at name by) r h =
      let rules = print_rules name (type_named name.name known) by in
      rules_refuse rules (Print name.name (order_in (columns_in (type_named name.name known)) by)) r (broken_is rules r h)
  statement_judged (ast.Store at old new) r h =
      let rules = known_rules NoName old (type_named old.name known) in
      rules_refuse rules (Store old.name new.name) r (broken_is rules r h)

  assigned_refused : (p : Judged Node) (name : List ℕ) (r : Refusal) → (p >>= λ table. Ok (Assign name table)) ≡ Err r → p ≡ Err r
  assigned_refused (Ok n) name r e = absurd cc
  assigned_refused (Err s) name r e = let z : s ≡ r = cc in ap (λ (x : Refusal). Err x) z

  pub statement_refused : (x : AstStatement) (r : Refusal) → checked_statement ps stored known x ≡ Err r → StatementRefused ps stored known x r
  statement_refused (ast.Assign at name tree) r e = op_refused ps stored known tree.at tree.op r (assigned_refused (checked_node ps stored known tree) name.name r e)
  statement_refused (ast.Print at name by) r e =
      let rules = print_rules name (type_named name.name known) by in
      is_broken rules r (rules_refused rules (Print name.name (order_in (columns_in (type_named name.name known)) by)) r e)
  statement_refused (ast.Store at old new) r e =
      let rules = known_rules NoName old (type_named old.name known) in
      is_broken rules r (rules_refused rules (Store old.name new.name) r e)

-- ---- scripts

module _ (ps : Plugins) (stored : List Schema) where
  abbrev next_of : Progress → Statement → Progress
  next_of done s = record { known = known_after done.known s; statements = done.statements ++ s ∷ [] }

  one_stops : (done : Progress) (x : AstStatement) (r : Refusal) → checked_statement ps stored done.known x ≡ Err r → one_more ps stored done x ≡ Err r
  one_stops done x r e = λ i. e i >>= λ s. answered (record { known = known_after done.known s; statements = done.statements ++ s ∷ [] })

  one_refused : (done : Progress) (x : AstStatement) (r : Refusal) → one_more ps stored done x ≡ Err r → checked_statement ps stored done.known x ≡ Err r
  one_refused done x r e = by (checked_statement ps stored done.known x) refl e
    where
      by : (p : Judged Statement) → checked_statement ps stored done.known x ≡ p → (p >>= λ s. Ok (next_of done s)) ≡ Err r → checked_statement ps stored done.known x ≡ Err r
      by (Ok s) a q = absurd cc
      by (Err s) a q = let z : s ≡ r = cc in a ∙ ap (λ (y : Refusal). Err y) z

  pub script_judged : (tree : Ast) (r : Refusal) → Refused ps stored tree r → checked ps stored tree ≡ Err r
  unfolding checked walk
  script_judged tree r (at_statement before bad after ss _ e h d) =
      (λ i. walk (one_more ps stored) at_start (e i) >>= λ done. answered done.statements)
      ∙ (λ i. walk-append (one_more ps stored) at_start before (bad ∷ after) i >>= λ done. answered done.statements)
      ∙ (λ i. (all_only ps stored at_start before ss h i >>= λ t. walk (one_more ps stored) t (bad ∷ after)) >>= λ done. answered done.statements)
      ∙ (λ i. (one_stops (behind ps stored at_start ss) bad r (statement_judged ps stored (all_known [] ss) bad r d) i >>= λ t. walk (one_more ps stored) t after) >>= λ done. answered done.statements)

  record Stopped (known : List Schema) (xs : List AstStatement) (r : Refusal) : Type 0 where
    before : List AstStatement
    bad : AstStatement
    after : List AstStatement
    typed : List Statement
    parts : xs ≡ before ++ bad ∷ after
    have : StatementsHave ps stored known before typed
    refuses : StatementRefused ps stored (all_known known typed) bad r

  walk_refused : (done : Progress) (xs : List AstStatement) (r : Refusal) → walk (one_more ps stored) done xs ≡ Err r → Stopped done.known xs r
  unfolding walk StatementsHave all_known
  walk_refused done [] r e = absurd cc
  walk_refused done (x ∷ xs) r e = by_step (one_more ps stored done x) refl e (λ next q. walk_refused next xs r q)
    where
      further : (next : Progress) (s : Statement) → next.known ≡ known_after done.known s → StatementHas ps stored done.known x s → Stopped next.known xs r → Stopped done.known (x ∷ xs) r
      further next s k h d = record {
        before = x ∷ d.before;
        bad = d.bad;
        after = d.after;
        typed = s ∷ d.typed;
        parts = ap (λ us. x ∷ us) d.parts;
        have = (h, subst (λ known. StatementsHave ps stored known d.before d.typed) k d.have);
        refuses = subst (λ known. StatementRefused ps stored (all_known known d.typed) d.bad r) k d.refuses;
      }

      by_step : (p : Judged Progress) → one_more ps stored done x ≡ p → (p >>= λ t. walk (one_more ps stored) t xs) ≡ Err r → ((next : Progress) → walk (one_more ps stored) next xs ≡ Err r → Stopped next.known xs r) → Stopped done.known (x ∷ xs) r
      by_step (Ok next) a q on = let one = one_found ps stored done next x a in further next one.0 one.1 one.3 (on next q)
      by_step (Err s) a q on =
          let z : s ≡ r = cc in
          record { before = []; bad = x; after = xs; typed = []; parts = refl; have = tt; refuses = statement_refused ps stored done.known x r (one_refused done x r (a ∙ ap (λ (y : Refusal). Err y) z)) }

  pub script_refused : (tree : Ast) (r : Refusal) → checked ps stored tree ≡ Err r → Refused ps stored tree r
  unfolding checked
  script_refused tree r e = by (walk (one_more ps stored) at_start tree.statements) refl e
    where
      by : (p : Judged Progress) → walk (one_more ps stored) at_start tree.statements ≡ p → (p >>= λ done. Ok done.statements) ≡ Err r → Refused ps stored tree r
      by (Ok done) a q = absurd cc
      by (Err s) a q =
          let z : s ≡ r = cc in
          let d = walk_refused at_start tree.statements r (a ∙ ap (λ (y : Refusal). Err y) z) in
          at_statement d.before d.bad d.after d.typed r d.parts d.have d.refuses

-- what the code refuses is refused
pub right_fault : (ps : Plugins) (stored : List Schema) (tree : Ast) (fault : ReadFault) → FaultJudges (checked ps stored tree) fault → RefusedRight ps stored tree fault
right_fault ps stored tree (faults.Refused r) e = script_refused ps stored tree r e
right_fault ps stored tree faults.Memory e = tt

-- ---- one refusal

same_refusal : {A : Type 0} (p : Judged A) (r s : Refusal) → p ≡ Err r → p ≡ Err s → r ≡ s
same_refusal (Ok x) r s e f = absurd cc
same_refusal (Err q) r s e f = cc

not_both : {A : Type 0} (p : Judged A) (x : A) (r : Refusal) → p ≡ Ok x → p ≡ Err r → ⊥
not_both (Ok y) x r e f = absurd cc
not_both (Err q) x r e f = absurd cc

module _ (ps : Plugins) (stored : List Schema) (tree : Ast) where
  -- a script has one refusal
  pub one_refusal : (r s : Refusal) → Refused ps stored tree r → Refused ps stored tree s → r ≡ s
  one_refusal r s h g = same_refusal (checked ps stored tree) r s (script_judged ps stored tree r h) (script_judged ps stored tree s g)

  -- a script that stands for a typed one has none
  pub none_refused : (ss : List Statement) (r : Refusal) → HasTypes ps stored tree ss → Refused ps stored tree r → ⊥
  none_refused ss r h g = not_both (checked ps stored tree) ss r (has_checked ps stored tree ss h) (script_judged ps stored tree r g)
