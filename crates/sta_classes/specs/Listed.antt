-- Lists of classes, one of each kind for each place.
use Rattle.std.specs.Prelude.{ℕ, ◌≡◌, ◌<◌, ◌≤◌, ◌⊎◌, List, [], get_or, length, Contains}
use Rattle.model_sta.specs.Automaton.{Rule}
use Rattle.model_sta.specs.Sets.{step}
use Rattle.model_sta.specs.Least.{Found, rows_of, counts_of, rows_at, nodes_at, cost}
use Rattle.sta_theory.specs.Kinds.{OneKind}

-- the classes that are listed for each constructor and place
module _ {L : Type 0} (rules : List (List (Rule L))) (ranks : List ℕ) (found : List (Found L)) (listed : ℕ → ℕ → List ℕ) where
  -- these are found classes, and each found class has one of its kind with no more nodes among those listed for the place
  pub record AreCheapest : Type 0 where
    pub are_found : (c j i : ℕ) → c < length ranks → j < get_or ranks c 0 → Contains (listed c j) i → i < length found
    pub cheapest : (c j k : ℕ) → c < length ranks → j < get_or ranks c 0 → k < length found
        → (i : ℕ) × Contains (listed c j) i × OneKind rules c j (get_or (rows_of found) k []) (get_or (rows_of found) i []) × (get_or (counts_of found) i 0 ≤ get_or (counts_of found) k 0)

  -- as many as the constructor has children, each listed for its place
  abbrev pub AreListed : ℕ → List ℕ → Type 0
  AreListed c ks = (length ks ≡ get_or ranks c 0) × ((j : ℕ) → j < length ks → Contains (listed c j) (get_or ks j 0))

  -- each node over classes listed for their places has a found set, or costs at least m
  abbrev pub CostsOverKinds : ℕ → (L → Type 0) → ℕ → Type 0
  CostsOverKinds cap D m =
      (c : ℕ) → c < length ranks → (ks : List ℕ) → AreListed c ks → (l : L) → D l
      → Contains (rows_of found) (step rules c l (rows_at found ks)) ⊎ (m ≤ cost cap (nodes_at found ks))
