use Rattle.std.proofs.Common.{◌≡◌, ◌≤◌, length, map, drop}
use Rattle.model_tree.specs.Tree.{trees_of}
use Rattle.model_tree.specs.TreeOrder.{tree_cmp, trees_cmp}
use Rattle.fast_cut.proofs.Parts.{cut_tree}
use Rattle.fast_cut.proofs.Cut.+compare.Given as goal

abbrev pub decreases-compare : goal.decreases-compare
decreases-compare g l = goal.size-compare g l

abbrev pub invariant-compare_parts : goal.invariant-compare_parts
invariant-compare_parts g l =
    (l.i ≡ l.part-index) × (l.i ≤ length l.others.items) × (trees_cmp g.V.Ord.cmp (trees_of (map cut_tree (drop l.i l.part-items))) (trees_of (map cut_tree (drop l.i l.others.items))) ≡ tree_cmp g.V.Ord.cmp (cut_tree l.self) (cut_tree l.other))
