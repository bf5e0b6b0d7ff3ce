use Rattle.std.proofs.Common.{◌≡◌, ◌≤◌, length, drop}
use Rattle.model_tree.specs.Tree.{trees_of}
use Rattle.model_tree.specs.TreeOrder.{trees_cmp}
use Rattle.fast_tree.proofs.tree.Tree.+compare.Given as goal

abbrev pub invariant-loop-child : goal.invariant-loop-child
invariant-loop-child g l =
    (l.i ≡ l.child-index) × (l.i ≤ length l.others.items) × (trees_cmp g.V.Ord.cmp (trees_of (drop l.i l.child-items)) (trees_of (drop l.i l.others.items)) ≡ trees_cmp g.V.Ord.cmp (trees_of l.child-items) (trees_of l.others.items))
