use Rattle.std.proofs.Common.{◌≡◌, suc, ◌++◌, ◌∷◌, map, take}
use Rattle.model_tree.specs.Tree.{trees_of, node_count_all, depth, depth_all}
use Rattle.sta_marks.specs.Nodes.{nodes_of_all}
use Rattle.sttr_apply.specs.Sizes.{size_of}
use Rattle.sttr_apply.proofs.sizes.+measure.Given as goal

abbrev pub decreases-measure : goal.decreases-measure
decreases-measure g l = depth l.tree.now

abbrev pub invariant-children : goal.invariant-children
invariant-children g l = record {
  nodes : l.nodes ≡ suc (node_count_all (trees_of (take l.child-index l.child-items)));
  levels : l.levels ≡ depth_all (trees_of (take l.child-index l.child-items));
  sizes : l.sizes.items ≡ l.fn.sizes.items ++ (record { nodes = 0; levels = 0 } ∷ map size_of (nodes_of_all (trees_of (take l.child-index l.child-items))));
}
