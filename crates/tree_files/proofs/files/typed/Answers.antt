use Rattle.std.proofs.Common.{◌≡◌, [], map, sym, ◌∙◌, subst}
use Rattle.model_grammar.specs.TreeFiles.{trees_of}
use Rattle.model_run.specs.Texts.{trees_failures}
use Rattle.tree_reader.specs.Plain.{plain_tree}
use Rattle.tree_files.specs.Types.{plain_type}
use Rattle.tree_files.proofs.Failing.{none_fails}
use Rattle.tree_files.proofs.files.typed.Goals as goal

pub placed_trees-requires-clause-sound : goal.placed_trees-requires-clause-sound
placed_trees-requires-clause-sound c = none_fails (trees_failures (plain_type c.in-Ok.of) (trees_of (map plain_tree c.args.trees.now))) (sym c.first_of_trees.ensures ∙ c.in_default-first_of_trees.is)

pub returns-in-Ok-placed_trees-clause-sound : goal.returns-in-Ok-placed_trees-clause-sound
returns-in-Ok-placed_trees-clause-sound c =
    let reads = trees_of (map plain_tree c.args.trees.now) in
    let sound = none_fails (trees_failures (plain_type c.in-Ok.of) reads) (sym c.first_of_trees.ensures ∙ c.in_default-first_of_trees.is) in
    subst (λ s. trees_failures s reads ≡ []) (c.in-Ok.ensures {u = tt}).same sound
