use Rattle.std.proofs.Common.{◌≡◌, map, drop}
use Rattle.model_grammar.specs.TreeFiles.{trees_of}
use Rattle.model_checks.specs.Failures.{first_among}
use Rattle.model_run.specs.Texts.{trees_failures}
use Rattle.tree_reader.specs.Plain.{plain_tree}
use Rattle.tree_files.specs.Types.{plain_type}
use Rattle.tree_files.proofs.check.+trees.Given as goal

abbrev pub invariant-first_of_trees-trees : goal.invariant-first_of_trees-trees
invariant-first_of_trees-trees l =
    first_among l.first (trees_failures (plain_type l.of) (trees_of (map plain_tree (drop l.tree-index l.trees)))) ≡ first_among l.initial.first (trees_failures (plain_type l.of) (trees_of (map plain_tree l.trees)))
