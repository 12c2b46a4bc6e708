use Rattle.lara_data.specs.TreeSizes.{nodes}
use Rattle.lara_assoc.proofs.trees.+table_of.Given as goal

-- the nodes of the tree
abbrev pub decreases-table_of : goal.decreases-table_of
decreases-table_of g l = nodes l.node.now.op
