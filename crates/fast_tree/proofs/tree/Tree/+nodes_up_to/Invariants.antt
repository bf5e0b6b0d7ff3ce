use Rattle.std.proofs.Common.{◌≡◌, suc, ◌+◌, drop}
use Rattle.model_tree.specs.Tree.{node_count_all, trees_of}
use Rattle.fast_tree.proofs.tree.Tree.+nodes_up_to.Given as goal

abbrev pub invariant-loop-child : goal.invariant-loop-child
invariant-loop-child g l =
    l.left + suc (node_count_all (trees_of l.child-items)) ≡ l.most + node_count_all (trees_of (drop l.child-index l.child-items))
