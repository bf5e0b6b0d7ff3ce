-- The set of states that accept a tree, and trees of a type.
use Rattle.std.specs.Prelude.{ℕ, suc, ◌≡◌, ◌<◌, Bool, true, false, ◌&&◌, ◌==◌, List, [], ◌∷◌, get_or, map, length, ⊤}
use Rattle.std.specs.List.{list_any, list_all}
use Rattle.model_tree.specs.Tree.{Tree, node, Trees, no_trees, tree}
use Rattle.model_sta.specs.Automaton.{Rule}

-- P holds of each element
abbrev pub Each : {X : Type 0} → (X → Type 0) → List X → Type 0
Each P [] = ⊤
Each P (x ∷ xs) = P x × Each P xs

-- a set of states, as one truth value for each state
abbrev pub Row : Type 0
Row = List Bool

-- whether the state is in the set
abbrev pub has : Row → ℕ → Bool
has q s = get_or q s false

-- each child's set has what is demanded of it
abbrev pub rows_meet : List Row → List (List ℕ) → Bool
rows_meet [] ds = true
rows_meet (q ∷ qs) [] = true
rows_meet (q ∷ qs) (d ∷ ds) = list_all (has q) d && rows_meet qs ds

module _ {L : Type 0} where
  -- whether the rule applies to a node whose children have the sets qs
  abbrev pub fires : ℕ → L → List Row → Rule L → Bool
  fires c l qs r = (r.constructor == c) && (r.guard l && rows_meet qs r.demands)

  -- how many trees there are
  abbrev pub width : Trees L → ℕ
  width no_trees = 0
  width (tree t ts) = suc (width ts)

module _ {L : Type 0} (rules : List (List (Rule L))) where
  -- the set of a node whose children have the sets qs
  abbrev pub step : ℕ → L → List Row → Row
  step c l qs = map (list_any (fires c l qs)) rules

  abbrev mutual
    -- the set of states that accept the tree
    pub set_of : Tree L → Row
    set_of (node c l ts) = step c l (sets_of ts)

    pub sets_of : Trees L → List Row
    sets_of no_trees = []
    sets_of (tree t ts) = set_of t ∷ sets_of ts

  -- the guards of constructor c have the same truth values at both labels
  abbrev pub Agree : ℕ → L → L → Type 0
  Agree c l m = Each (Each (λ r. r.constructor ≡ c → r.guard l ≡ r.guard m)) rules

-- a tree of the type: each constructor is one of the ranks, with that many children, and each label is one of D
module _ {L : Type 0} (ranks : List ℕ) (D : L → Type 0) where
  abbrev mutual
    pub Fits : Tree L → Type 0
    Fits (node c l ts) = (c < length ranks) × D l × (width ts ≡ get_or ranks c 0) × FitsAll ts

    pub FitsAll : Trees L → Type 0
    FitsAll no_trees = ⊤
    FitsAll (tree t ts) = Fits t × FitsAll ts
