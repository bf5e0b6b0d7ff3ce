use Rattle.std.proofs.Common.{map, take}
use Rattle.tree_reader.specs.Plain.{plain_tree}
use Rattle.tree_files.specs.Types.{plain_type}
use Rattle.tree_files.specs.Placed.{plain_placed, ArePlacedOf}
use Rattle.tree_files.proofs.make.placed_trees.Given as goal

abbrev pub invariant-trees : goal.invariant-trees
invariant-trees l = ArePlacedOf (plain_type l.of) (map plain_tree (take l.tree-index l.trees)) (map plain_placed l.placed.items)
