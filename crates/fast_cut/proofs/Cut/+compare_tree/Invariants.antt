use Rattle.std.proofs.Common.{◌≡◌, ◌≤◌, length, map, drop}
use Rattle.model_tree.specs.Tree.{trees_of}
use Rattle.model_tree.specs.TreeOrder.{tree_cmp, trees_cmp}
use Rattle.fast_cut.proofs.Parts.{cut_tree}
use Rattle.fast_cut.proofs.Cut.+compare_tree.Given as goal

abbrev pub decreases-compare_tree : goal.decreases-compare_tree
decreases-compare_tree g l = goal.size-compare_tree g l

abbrev pub invariant-compare : goal.invariant-compare
invariant-compare g l =
    (l.i ≡ l.part-index) × (l.i ≤ length l.others) × (trees_cmp g.V.Ord.cmp (trees_of (map cut_tree (drop l.i l.part-items))) (trees_of (drop l.i l.others)) ≡ tree_cmp g.V.Ord.cmp (cut_tree l.self) l.other)
