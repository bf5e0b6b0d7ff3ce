use Rattle.std.proofs.Common.{◌+◌, ◌*◌, map, take}
use Rattle.model_tree.specs.Tree as model
use Rattle.model_grammar.specs.TreeFiles.{trees_of}
use Rattle.tree_reader.specs.Plain.{plain_tree}
use Rattle.tree_files.specs.Types.{plain_type}
use Rattle.tree_files.specs.Placed.{meant, AreMade}
use Rattle.tree_files.proofs.Weights.{weight, weights}
use Rattle.tree_files.proofs.make.+made.Given as goal

abbrev pub invariant-made_trees-trees : goal.invariant-made_trees-trees
invariant-made_trees-trees l = AreMade (plain_type l.of) (trees_of (map plain_tree (take l.tree-index l.trees))) (model.trees_of (map meant l.made.items))

abbrev pub decreases-made_tree : goal.decreases-made_tree
decreases-made_tree l = 2 * weight (plain_tree l.tree.now)

abbrev pub decreases-made_trees : goal.decreases-made_trees
decreases-made_trees l = 2 * weights (trees_of (map plain_tree l.trees.now)) + 1
