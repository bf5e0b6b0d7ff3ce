-- Which sets of states trees have.
use Rattle.std.specs.Prelude.{ℕ, ◌≡◌, ◌<◌, List, [], get_or, length, All, Contains}
use Rattle.model_tree.specs.Tree.{Tree}
use Rattle.model_sta.specs.Automaton.{Rule}
use Rattle.model_sta.specs.Sets.{Each, Row, step, set_of, Agree, Fits}

-- no two are one
abbrev pub Apart : List Row → Type 0
Apart qs = (i j : ℕ) → i < j → j < length qs → ¬ (get_or qs i [] ≡ get_or qs j [])

module _ {L : Type 0} (ranks : List ℕ) (D : L → Type 0) (rules : List (List (Rule L))) where
  -- some tree of the type, with labels of D, has the set
  abbrev pub IsReached : Row → Type 0
  IsReached q = (t : Tree L) × Fits ranks D t × (set_of rules t ≡ q)

  -- sets that trees have, each once
  pub record AreSets (qs : List Row) : Type 0 where
    pub reached : All IsReached qs
    pub apart : Apart qs

  -- trees have more than so many sets
  abbrev pub HasMoreSets : ℕ → Type 0
  HasMoreSets most = (qs : List Row) × AreSets qs × (most < length qs)

  -- the set of each tree is among these
  abbrev pub IsComplete : List Row → Type 0
  IsComplete known = (t : Tree L) → Fits ranks D t → Contains known (set_of rules t)

  -- each label of D agrees with one of the given labels of the constructor
  abbrev pub Covers : (ℕ → List L) → Type 0
  Covers values = (c : ℕ) → c < length ranks → (l : L) → D l → (v : L) × Contains (values c) v × Agree rules c l v

  -- a node over known sets, with one of the given labels, has a known set
  abbrev pub IsClosed : (ℕ → List L) → List Row → Type 0
  IsClosed values known =
      (c : ℕ) → c < length ranks → (qs : List Row) → Each (Contains known) qs → length qs ≡ get_or ranks c 0 → (v : L) → Contains (values c) v
      → Contains known (step rules c v qs)

-- exactly the sets that trees have, each once, and each that of a tree of kept labels
pub record IsTable {L : Type 0} (ranks : List ℕ) (has keeps : L → Type 0) (rules : List (List (Rule L))) (qs : List Row) : Type 0 where
  pub sets : AreSets ranks keeps rules qs
  pub complete : IsComplete ranks has rules qs
