use Rattle.std.proofs.Common.{[], ◌∷◌, map, ap, ◌∙◌}
use Rattle.std.proofs.lemmas.List.{map-append}
use Rattle.tree_files.specs.Placed.{plain_placed}
use Rattle.tree_files.specs.Types.{plain_type}
use Rattle.tree_files.proofs.Standing.{sound_at, one_placed}
use Rattle.tree_files.proofs.make.placed_trees.Goals as goal

pub placed_tree-requires-clause-sound : goal.placed_tree-requires-clause-sound
placed_tree-requires-clause-sound c = sound_at (plain_type c.args.of.now) c.args.trees.now c.trees.tree-index c.tree-item.result c.requires.sound c.trees-test.true c.tree-item.is

pub trees-preserved : goal.trees-preserved
trees-preserved c =
    let placed = c.in_ok-placed_tree.field-0 in
    one_placed (plain_type c.args.of.now) c.args.trees.now c.trees.tree-index c.tree-item.result (map plain_placed c.trees.placed.items) (map plain_placed c.push.new.self.items) (plain_placed placed) c.trees-test.true c.tree-item.is
    (ap (map plain_placed) c.in_ok-push.ensures.items ∙ map-append plain_placed c.trees.placed.items (placed ∷ [])) c.in_ok-placed_tree.ensures c.trees.invariant
