-- How many nodes a typed tree has.
use Rattle.std.specs.Prelude.{ℕ, ◌+◌}
use Rattle.lara_data.specs.declared.node.Op.{Op}
use Rattle.lara_data.specs.declared.node.Op.TheBlock.{end_of-Node, more_of-Node}
use Rattle.lara_data.specs.declared.node.Op.TheVariants.{Load, Named, Literal, Join', Union', Agg', Map', Filter', Promote', Rename', Apply'}

-- an operator with the nodes below it
unfoldable pub nodes : Op → ℕ
nodes (Load n) = 1
nodes (Named n) = 1
nodes (Literal es) = 1
nodes (Join' _ (more_of-Node t a end_of-Node) _ (more_of-Node u b end_of-Node)) = 1 + (nodes a + nodes b)
nodes (Union' _ (more_of-Node t a end_of-Node) _ (more_of-Node u b end_of-Node)) = 1 + (nodes a + nodes b)
nodes (Agg' _ (more_of-Node t a end_of-Node) ks) = 1 + nodes a
nodes (Map' _ (more_of-Node t a end_of-Node) defs) = 1 + nodes a
nodes (Filter' _ (more_of-Node t a end_of-Node) test) = 1 + nodes a
nodes (Promote' _ (more_of-Node t a end_of-Node) def) = 1 + nodes a
nodes (Rename' _ (more_of-Node t a end_of-Node) pairs) = 1 + nodes a
nodes (Apply' _ (more_of-Node t a end_of-Node) call) = 1 + nodes a
