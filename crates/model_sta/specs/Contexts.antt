-- Contexts, and trees that they tell apart.
use Rattle.std.specs.Prelude.{◌≡◌, ◌≤◌, ℕ, List, ◌∷◌, ◌++◌, length}
use Rattle.std.specs.List.{All}
use Rattle.model_tree.specs.Tree.{Tree, node, trees_of}
use Rattle.model_sta.specs.EachTwo.{EachTwo}

-- a tree with one hole in the place of a subtree
pub data Context (L : Type 0) : Type 0 where
  hole : Context L
  around : ℕ → L → List (Tree L) → Context L → List (Tree L) → Context L

-- the tree that a context makes of one
abbrev pub filled : {L : Type 0} → Context L → Tree L → Tree L
filled hole t = t
filled (around c l before k after) t = node c l (trees_of (before ++ filled k t ∷ after))

-- Two trees differ where exactly one of them is in a language.
module _ {L : Type 0} (Typed : Tree L → Type 0) (Differ : Tree L → Tree L → Type 0) where
  -- with the two trees in the hole of some context the results differ
  abbrev pub AreToldApart : Tree L → Tree L → Type 0
  AreToldApart s t = (k : Context L) × Typed (filled k s) × Typed (filled k t) × Differ (filled k s) (filled k t)

  -- trees of the type, each two of them told apart
  abbrev pub AreAllToldApart : List (Tree L) → Type 0
  AreAllToldApart ts = All Typed ts × EachTwo AreToldApart ts

  -- the greatest number of trees that contexts tell apart pairwise
  pub record IsCount (n : ℕ) : Type 0 where
    pub trees : List (Tree L)
    pub apart : AreAllToldApart trees
    pub so_many : length trees ≡ n
    pub no_more : (ts : List (Tree L)) → AreAllToldApart ts → length ts ≤ n
