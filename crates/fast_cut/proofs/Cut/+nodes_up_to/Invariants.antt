use Rattle.std.proofs.Common.{◌≡◌, ◌+◌, map, drop}
use Rattle.model_tree.specs.Tree.{node_count, node_count_all, trees_of}
use Rattle.fast_cut.proofs.Parts.{cut_tree}
use Rattle.fast_cut.proofs.Cut.+nodes_up_to.Given as goal

abbrev pub invariant-count : goal.invariant-count
invariant-count g l =
    l.left + node_count (cut_tree l.self) ≡ l.most + node_count_all (trees_of (map cut_tree (drop l.part-index l.part-items)))
