-- How many nodes a script has, with places and typed.
use Rattle.std.specs.Prelude.{ℕ, ◌+◌, List}
use Rattle.std.specs.List.{sum_by}
use Rattle.lara_data.specs.declared.script.Statement.{Statement}
use Rattle.lara_data.specs.declared.script.Statement.TheVariants.{Assign, Print, Store}
use Rattle.lara_data.specs.TreeSizes.{nodes}
use Rattle.lara_syntax.specs.declared.ast.AstOp.{AstOp}
use Rattle.lara_syntax.specs.declared.ast.AstOp.TheBlock.{end_of-AstNode, more_of-AstNode}
use Rattle.lara_syntax.specs.declared.ast.AstOp.TheVariants.{Load, Named, Literal, Join', Union', Agg', Map', Filter', Promote', Rename', Apply'}
use Rattle.lara_syntax.specs.declared.ast.AstStatement.{AstStatement}
use Rattle.lara_syntax.specs.declared.ast.AstStatement.TheVariants as ast

-- the nodes of a tree with places
unfoldable pub written_nodes : AstOp → ℕ
written_nodes (Load n) = 1
written_nodes (Named n) = 1
written_nodes (Literal ty es) = 1
written_nodes (Join' _ (more_of-AstNode i a end_of-AstNode) _ (more_of-AstNode j b end_of-AstNode)) = 1 + (written_nodes a + written_nodes b)
written_nodes (Union' _ (more_of-AstNode i a end_of-AstNode) _ (more_of-AstNode j b end_of-AstNode)) = 1 + (written_nodes a + written_nodes b)
written_nodes (Agg' _ (more_of-AstNode i a end_of-AstNode) ks) = 1 + written_nodes a
written_nodes (Map' _ (more_of-AstNode i a end_of-AstNode) defs) = 1 + written_nodes a
written_nodes (Filter' _ (more_of-AstNode i a end_of-AstNode) test) = 1 + written_nodes a
written_nodes (Promote' _ (more_of-AstNode i a end_of-AstNode) def) = 1 + written_nodes a
written_nodes (Rename' _ (more_of-AstNode i a end_of-AstNode) pairs) = 1 + written_nodes a
written_nodes (Apply' _ (more_of-AstNode i a end_of-AstNode) call) = 1 + written_nodes a

-- the nodes of a statement with places
abbrev pub nodes_written : AstStatement → ℕ
nodes_written (ast.Assign at name tree) = written_nodes tree.op
nodes_written (ast.Print at name by) = 0
nodes_written (ast.Store at old new) = 0

-- the nodes of a typed statement
abbrev pub nodes_typed : Statement → ℕ
nodes_typed (Assign name node) = nodes node.op
nodes_typed (Print name order) = 0
nodes_typed (Store old new) = 0

-- the nodes of all statements with places
abbrev pub all_written : List AstStatement → ℕ
all_written xs = sum_by nodes_written xs

-- the nodes of all typed statements
abbrev pub all_typed : List Statement → ℕ
all_typed ss = sum_by nodes_typed ss
