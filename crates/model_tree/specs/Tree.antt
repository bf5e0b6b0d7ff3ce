-- Trees of the meaning, over labels of any type.
use Rattle.std.specs.Prelude.{ℕ, suc, ◌+◌, max, List, [], ◌∷◌}
use Rattle.model_tree.specs.Label.{Label}

mutual
  -- a constructor's number, a label and the children
  pub data Tree (A : Type 0) : Type 0 where
    node : ℕ → A → Trees A → Tree A

  pub data Trees (A : Type 0) : Type 0 where
    no_trees : Trees A
    tree : Tree A → Trees A → Trees A

-- a tree whose labels are those of the meaning
abbrev pub LabelTree : Type 0
LabelTree = Tree Label

module _ {A : Type 0} where
  abbrev pub constructor_of : Tree A → ℕ
  constructor_of (node c l ts) = c

  abbrev pub label_of : Tree A → A
  label_of (node c l ts) = l

  abbrev pub children_of : Tree A → Trees A
  children_of (node c l ts) = ts

  abbrev pub list_of : Trees A → List (Tree A)
  list_of no_trees = []
  list_of (tree t ts) = t ∷ list_of ts

  abbrev pub trees_of : List (Tree A) → Trees A
  trees_of [] = no_trees
  trees_of (t ∷ ts) = tree t (trees_of ts)

  abbrev mutual
    -- how many nodes there are
    pub node_count : Tree A → ℕ
    node_count (node c l ts) = suc (node_count_all ts)

    pub node_count_all : Trees A → ℕ
    node_count_all no_trees = 0
    node_count_all (tree t ts) = node_count t + node_count_all ts

  abbrev mutual
    -- a leaf has depth 1
    pub depth : Tree A → ℕ
    depth (node c l ts) = suc (depth_all ts)

    pub depth_all : Trees A → ℕ
    depth_all no_trees = 0
    depth_all (tree t ts) = max (depth t) (depth_all ts)

module _ {A B : Type 0} (f : A → B) where
  abbrev mutual
    -- the same tree, with f of each label in its place
    pub relabel : Tree A → Tree B
    relabel (node c l ts) = node c (f l) (relabel_all ts)

    pub relabel_all : Trees A → Trees B
    relabel_all no_trees = no_trees
    relabel_all (tree t ts) = tree (relabel t) (relabel_all ts)

module _ {A : Type 0} (P : A → Type 0) where
  abbrev mutual
    pub EveryLabel : Tree A → Type 0
    EveryLabel (node c l ts) = P l × EveryLabelOfAll ts

    pub EveryLabelOfAll : Trees A → Type 0
    EveryLabelOfAll no_trees = Unit {0}
    EveryLabelOfAll (tree t ts) = EveryLabel t × EveryLabelOfAll ts
