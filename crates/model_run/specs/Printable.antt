-- Trees that a line may show.
use Rattle.std.specs.Prelude.{◌≡◌, ◌≤◌, true}
use Rattle.model_tree.specs.Limits.{most_nodes, greatest_depth}
use Rattle.model_tree.specs.Tree.{LabelTree, node_count, depth}
use Rattle.model_tree.specs.Kept.{is_kept}
use Rattle.model_tree.specs.Scalars.{has_scalars}

-- its numbers are kept and its texts are lists of Unicode scalars, and it isn't too large
pub record IsPrintable (t : LabelTree) : Type 0 where
  pub kept : is_kept t ≡ true
  pub scalars : has_scalars t ≡ true
  pub small : node_count t ≤ most_nodes
  pub shallow : depth t ≤ greatest_depth
