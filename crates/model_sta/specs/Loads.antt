-- The outputs of a relation at a tree, and when there are too many or too large ones; the trees in a tree.
use Rattle.std.specs.Prelude.{◌≡◌, ◌⊎◌, ◌<◌, List, length}
use Rattle.std.specs.List.{All, sum_by}
use Rattle.model_tree.specs.Limits.{most_nodes, greatest_depth, most_outputs}
use Rattle.model_tree.specs.Tree.{Tree, node, Trees, no_trees, tree, node_count, depth}
use Rattle.model_sta.specs.EachTwo.{AreDifferent}

-- what of a load is too much
pub data Load : Type 0 where
  outputs : Load
  nodes : Load
  depths : Load

module _ {L : Type 0} where
  -- More than 4,096 different trees, different trees of more than 1,048,576 nodes together, or one deeper than 2,000, are related to the tree.
  abbrev pub IsTooMuch : Load → (Tree L → Tree L → Type 0) → Tree L → Type 0
  IsTooMuch outputs R t = (us : List (Tree L)) × All (R t) us × AreDifferent us × (most_outputs < length us)
  IsTooMuch nodes R t = (us : List (Tree L)) × All (R t) us × AreDifferent us × (most_nodes < sum_by node_count us)
  IsTooMuch depths R t = (u : Tree L) × R t u × (greatest_depth < depth u)

  abbrev mutual
    -- s is the tree, or a tree in it
    pub IsSubtree : Tree L → Tree L → Type 0
    IsSubtree s (node c l ts) = (s ≡ node c l ts) ⊎ IsSubtreeOfOne s ts

    pub IsSubtreeOfOne : Tree L → Trees L → Type 0
    IsSubtreeOfOne s no_trees = ⊥
    IsSubtreeOfOne s (tree t ts) = IsSubtree s t ⊎ IsSubtreeOfOne s ts
