use Rattle.std.proofs.Common.{◌≡◌, ◌<◌, max, drop}
use Rattle.model_tree.specs.Tree.{depth_all, trees_of}
use Rattle.fast_tree.proofs.tree.Tree.+depth_up_to.Given as goal

abbrev pub invariant-loop-child : goal.invariant-loop-child
invariant-loop-child g l =
    (max l.below (depth_all (trees_of (drop l.child-index l.child-items))) ≡ depth_all (trees_of l.child-items)) × (l.below < l.most)
