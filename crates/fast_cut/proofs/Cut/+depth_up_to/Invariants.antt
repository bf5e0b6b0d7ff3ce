use Rattle.std.proofs.Common.{◌≡◌, ◌<◌, suc, max, map, drop}
use Rattle.model_tree.specs.Tree.{depth, depth_all, trees_of}
use Rattle.fast_cut.proofs.Parts.{cut_tree}
use Rattle.fast_cut.proofs.Cut.+depth_up_to.Given as goal

abbrev pub invariant-descend : goal.invariant-descend
invariant-descend g l =
    (l.below < l.most) × (suc (max l.below (depth_all (trees_of (map cut_tree (drop l.part-index l.part-items))))) ≡ depth (cut_tree l.self))
