-- The nodes of a tree in preorder.
use Rattle.std.specs.Prelude.{List, [], ◌∷◌, ◌++◌, map}
use Rattle.model_tree.specs.Tree.{Tree, node, Trees, no_trees, tree}
use Rattle.model_sta.specs.Automaton.{Rule}
use Rattle.model_sta.specs.Sets.{Row, set_of}

module _ {L : Type 0} where
  abbrev mutual
    -- the subtrees at them, each before those below it and to its right
    pub nodes_of : Tree L → List (Tree L)
    nodes_of (node c l ts) = node c l ts ∷ nodes_of_all ts

    pub nodes_of_all : Trees L → List (Tree L)
    nodes_of_all no_trees = []
    nodes_of_all (tree t ts) = nodes_of t ++ nodes_of_all ts

  -- of each node the set of states that accept the subtree at it
  abbrev pub marks_of : List (List (Rule L)) → Tree L → List Row
  marks_of rules t = map (set_of rules) (nodes_of t)
