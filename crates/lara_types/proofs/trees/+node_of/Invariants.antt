use Rattle.lara_types.specs.Sizes.{written_nodes}
use Rattle.lara_types.proofs.trees.+node_of.Given as goal

-- the nodes of the tree
abbrev pub decreases-node_of : goal.decreases-node_of
decreases-node_of g l = written_nodes l.node.now.op
