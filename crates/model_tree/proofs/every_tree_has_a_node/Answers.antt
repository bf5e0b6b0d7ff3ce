use Rattle.model_tree.proofs.Trees.{one-le-node_count}
use Rattle.model_tree.proofs.every_tree_has_a_node.Goals as goal

pub returns : goal.returns
returns c = one-le-node_count
