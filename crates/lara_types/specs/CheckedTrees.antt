-- The typed tree of a tree with places, or its first refusal: operands come before operators, left before right, and each node
-- is made where its rules are met.
use Rattle.std.specs.Prelude.{ℕ, List, [], map, Option, Some, None}
use Rattle.lara_data.specs.declared.node.Node.{Node}
use Rattle.lara_data.specs.declared.node.Op.{Op}
use Rattle.lara_data.specs.declared.node.Op.TheVariants as to
use Rattle.lara_data.specs.declared.refusal.Kind.TheVariants.{Unexpected, NoTable, NoName}
use Rattle.lara_data.specs.declared.order.EachOp.TheVariants as each
use Rattle.lara_data.specs.declared.schema.Schema.{Schema}
use Rattle.lara_data.specs.Algebra.{join_columns, union_columns, agg_columns}
use Rattle.lara_data.specs.Extensions.{each_columns, renamed_columns}
use Rattle.lara_data.specs.Plugins.{Plugins}
use Rattle.lara_data.specs.TableTypes.{Columns}
use Rattle.lara_data.specs.TypedTrees.{type_named}
use Rattle.lara_syntax.specs.declared.ast.AstEntry.{AstEntry}
use Rattle.lara_syntax.specs.declared.ast.AstName.{AstName}
use Rattle.lara_syntax.specs.declared.ast.AstNode.{AstNode}
use Rattle.lara_syntax.specs.declared.ast.AstOp.{AstOp}
use Rattle.lara_syntax.specs.declared.ast.AstOp.TheBlock.{end_of-AstNode, more_of-AstNode}
use Rattle.lara_syntax.specs.declared.ast.AstOp.TheVariants.{Load, Named, Literal, Join', Union', Agg', Map', Filter', Promote', Rename', Apply'}
use Rattle.lara_syntax.specs.declared.ast.AstType.{AstType}
use Rattle.lara_syntax.specs.declared.ast_expr.AstExpr.{AstExpr}
use Rattle.lara_syntax.specs.declared.ast_part.AstDef.{AstDef}
use Rattle.lara_syntax.specs.declared.ast_part.AstKeyDef.{AstKeyDef}
use Rattle.lara_syntax.specs.declared.ast_part.AstPair.{AstPair}
use Rattle.lara_data.specs.Judgements.{Judged, refused}
use Rattle.lara_base.specs.Results.{◌>>=◌}
use Rattle.lara_types.specs.EachRules.{map_rules, filter_rules, promote_rules, rename_rules}
use Rattle.lara_types.specs.LiteralValues.{entry_value}
use Rattle.lara_types.specs.NodeRules.{known_rules, literal_rules, join_rules, union_rules, agg_rules}
use Rattle.lara_types.specs.Rules.{by_rules}
use Rattle.lara_types.specs.Written.{plain, columns, plain_expr, plain_defs, plain_key_def, plain_pairs}

-- an operator with the columns of its table
abbrev pub typed : Columns → Op → Node
typed ty op = record { ty = ty; op = op }

-- the columns that were found; where none were, some that are never asked for
abbrev pub columns_in : Option Columns → Columns
columns_in None = record { keys = []; vals = [] }
columns_in (Some ty) = ty

-- a stored table
abbrev pub loaded : List Schema → AstName → Judged Node
loaded stored n = by_rules (known_rules NoTable n (type_named n.name stored)) (typed (columns_in (type_named n.name stored)) (to.Load n.name))

-- a table that was assigned before
abbrev pub assigned : List Schema → AstName → Judged Node
assigned known n = by_rules (known_rules NoName n (type_named n.name known)) (typed (columns_in (type_named n.name known)) (to.Named n.name))

-- a literal whose first word is at this place
abbrev pub literal : ℕ → AstType → List AstEntry → Judged Node
literal at ty es = by_rules (literal_rules at ty es) (typed (columns ty) (to.Literal (map (entry_value (columns ty)) es)))

-- a join whose first word is at this place
abbrev pub joined : ℕ → Node → Node → Judged Node
joined at a b = by_rules (join_rules at a.ty b.ty) (typed (join_columns a.ty b.ty) (to.Join a b))

-- a union whose first word is at this place
abbrev pub united : ℕ → Node → Node → Judged Node
united at a b = by_rules (union_rules at a.ty b.ty) (typed (union_columns a.ty b.ty) (to.Union a b))

-- an agg by these names
abbrev pub summed : Node → List AstName → Judged Node
summed a ks = by_rules (agg_rules a.ty ks) (typed (agg_columns a.ty (plain ks)) (to.Agg a (plain ks)))

-- a map
abbrev pub mapped : ℕ → Node → List AstDef → Judged Node
mapped at a ds = by_rules (map_rules at a.ty ds) (typed (each_columns (each.Map (plain_defs ds)) a.ty) (to.Map a (plain_defs ds)))

-- a filter
abbrev pub filtered : ℕ → Node → AstExpr → Judged Node
filtered at a e = by_rules (filter_rules at a.ty e) (typed a.ty (to.Filter a (plain_expr e)))

-- a promote
abbrev pub promoted : ℕ → Node → AstKeyDef → Judged Node
promoted at a d = by_rules (promote_rules at a.ty d) (typed (each_columns (each.Promote (plain_key_def d)) a.ty) (to.Promote a (plain_key_def d)))

-- a rename
abbrev pub renamed : ℕ → Node → List AstPair → Judged Node
renamed at a pairs = by_rules (rename_rules at a.ty pairs) (typed (renamed_columns (plain_pairs pairs) a.ty) (to.Rename a (plain_pairs pairs)))

-- What makes a table, with its first word at this place. The first list has the stored names, the second one those that
-- the script assigned so far. What has no words in the grammar yet is refused at its place.
unfoldable pub checked_op : Plugins → List Schema → List Schema → ℕ → AstOp → Judged Node
checked_op ps stored known at (Load n) = loaded stored n
checked_op ps stored known at (Named n) = assigned known n
checked_op ps stored known at (Literal ty es) = literal at ty es
checked_op ps stored known at (Join' _ (more_of-AstNode i a end_of-AstNode) _ (more_of-AstNode j b end_of-AstNode)) = do
  x ← checked_op ps stored known i a
  y ← checked_op ps stored known j b
  joined at x y
checked_op ps stored known at (Union' _ (more_of-AstNode i a end_of-AstNode) _ (more_of-AstNode j b end_of-AstNode)) = do
  x ← checked_op ps stored known i a
  y ← checked_op ps stored known j b
  united at x y
checked_op ps stored known at (Agg' _ (more_of-AstNode i a end_of-AstNode) ks) = do
  x ← checked_op ps stored known i a
  summed x ks
checked_op ps stored known at (Map' _ (more_of-AstNode i a end_of-AstNode) defs) = do
  x ← checked_op ps stored known i a
  mapped at x defs
checked_op ps stored known at (Filter' _ (more_of-AstNode i a end_of-AstNode) test) = do
  x ← checked_op ps stored known i a
  filtered at x test
checked_op ps stored known at (Promote' _ (more_of-AstNode i a end_of-AstNode) def) = do
  x ← checked_op ps stored known i a
  promoted at x def
checked_op ps stored known at (Rename' _ (more_of-AstNode i a end_of-AstNode) pairs) = do
  x ← checked_op ps stored known i a
  renamed at x pairs
-- no words yet
checked_op ps stored known at (Apply' _ (more_of-AstNode i a end_of-AstNode) call) = refused at Unexpected

-- the typed tree of a table
abbrev pub checked_node : Plugins → List Schema → List Schema → AstNode → Judged Node
checked_node ps stored known node = checked_op ps stored known node.at node.op
