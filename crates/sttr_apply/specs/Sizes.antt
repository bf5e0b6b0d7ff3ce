-- Sizes of trees, and the places of trees among the nodes of another one.
use Rattle.std.specs.Prelude.{ℕ, ◌≡◌, ◌≤◌, List, ◌++◌, map, length}
use Rattle.model_tree.specs.Limits.{most_nodes}
use Rattle.model_tree.specs.Label.{Label}
use Rattle.model_tree.specs.Tree.{Tree, node_count, depth, relabel}
use Rattle.model_sta.specs.Automaton.{Rule}
use Rattle.model_sta.specs.Sets.{Row}
use Rattle.sta_marks.specs.Nodes.{nodes_of, marks_of}
use Rattle.sttr_apply.specs.declared.sizes.Size.{Size}

abbrev pub size_of : {V : Type 0} → Tree V → Size
size_of t = record { nodes = node_count t; levels = depth t }

-- the list stands in another one from this place on
abbrev pub StandsAt : {X : Type 0} → ℕ → List X → List X → Type 0
StandsAt {X} n xs ys = (before : List X) × (after : List X) × (n ≡ length before) × (ys ≡ before ++ (xs ++ after))

-- the sizes and the marks are those of the nodes of a tree, which isn't too large
module _ {V : Type 0} (label : V → Label) (looks : List (List (Rule Label))) (root : Tree V) (sizes : List Size) (rows : List Row) where
  pub record IsScene : Type 0 where
    pub few : node_count root ≤ most_nodes
    pub sizes_are : sizes ≡ map size_of (nodes_of root)
    pub rows_are : rows ≡ marks_of looks (relabel label root)
