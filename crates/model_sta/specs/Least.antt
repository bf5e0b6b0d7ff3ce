-- Classes, which are sets that trees have, in the order of their least trees, with the number of nodes of a least tree
-- up to a cap.
use Rattle.std.specs.Prelude.{ℕ, suc, ◌+◌, ◌≡◌, ◌<◌, ◌≤◌, ◌⊎◌, min, List, [], ◌∷◌, map, get_or, length, ⊤, Contains}
use Rattle.model_tree.specs.Tree.{Tree, node_count, depth}
use Rattle.model_sta.specs.Automaton.{Rule}
use Rattle.model_sta.specs.Sets.{Each, Row, step, set_of, Fits}
use Rattle.model_sta.specs.Reached.{AreSets}

abbrev pub total : List ℕ → ℕ
total [] = 0
total (x ∷ xs) = x + total xs

-- P holds of each place and its element
abbrev pub EachNumbered : {X : Type 0} → (ℕ → X → Type 0) → List X → Type 0
EachNumbered P [] = ⊤
EachNumbered P (x ∷ xs) = P 0 x × EachNumbered (λ k. P (suc k)) xs

-- a set, the number of nodes of a least tree that has it, and how that tree is made from those of earlier classes
pub record Found (L : Type 0) : Type 0 where
  pub row : Row
  pub nodes : ℕ
  pub constructor : ℕ
  pub label : L
  pub children : List ℕ

-- the same with f of the label in its place
abbrev pub relabel_found : {A B : Type 0} → (A → B) → Found A → Found B
relabel_found f c = record { row = c.row; nodes = c.nodes; constructor = c.constructor; label = f c.label; children = c.children }

module _ {L : Type 0} where
  abbrev pub rows_of : List (Found L) → List Row
  rows_of found = map (λ f. f.row) found

  abbrev pub counts_of : List (Found L) → List ℕ
  counts_of found = map (λ f. f.nodes) found

  -- the sets of the classes with these numbers, and their counts
  abbrev pub rows_at : List (Found L) → List ℕ → List Row
  rows_at found ks = map (λ k. get_or (rows_of found) k []) ks

  abbrev pub nodes_at : List (Found L) → List ℕ → List ℕ
  nodes_at found ks = map (λ k. get_or (counts_of found) k 0) ks

-- the number of nodes over children with these, up to the cap
abbrev pub cost : ℕ → List ℕ → ℕ
cost cap ns = min cap (suc (total ns))

module _ {L : Type 0} (cap : ℕ) (ranks : List ℕ) (D : L → Type 0) (rules : List (List (Rule L))) where
  -- a tree of the set, over trees of the classes before number k
  pub record IsMade (found : List (Found L)) (k : ℕ) (f : Found L) : Type 0 where
    pub low : f.constructor < length ranks
    pub is_label : D f.label
    pub wide : length f.children ≡ get_or ranks f.constructor 0
    pub earlier : Each (λ j. j < k) f.children
    pub row_is : f.row ≡ step rules f.constructor f.label (rows_at found f.children)
    pub nodes_are : f.nodes ≡ cost cap (nodes_at found f.children)

  abbrev pub AreMade : List (Found L) → Type 0
  AreMade found = EachNumbered (IsMade found) found

  -- no tree of the set has fewer nodes
  abbrev pub IsLeast : Found L → Type 0
  IsLeast f = (t : Tree L) → Fits ranks D t → set_of rules t ≡ f.row → f.nodes ≤ node_count t

  -- each node over found sets has a found set, or costs at least m
  abbrev pub CostsAtLeast : (ℕ → List L) → List (Found L) → ℕ → Type 0
  CostsAtLeast values found m =
      (c : ℕ) → c < length ranks → (ks : List ℕ) → Each (λ k. k < length found) ks → length ks ≡ get_or ranks c 0 → (v : L) → Contains (values c) v
      → Contains (rows_of found) (step rules c v (rows_at found ks)) ⊎ (m ≤ cost cap (nodes_at found ks))

  -- a tree for the set at this place, with as many nodes as are kept there, where these are fewer than the cap
  pub record IsWitness (found : List (Found L)) (j : ℕ) (t : Tree L) : Type 0 where
    pub fits : Fits ranks D t
    pub set_is : set_of rules t ≡ get_or (rows_of found) j []
    pub count : get_or (counts_of found) j 0 < cap → node_count t ≡ get_or (counts_of found) j 0
    pub shallow : depth t ≤ suc j

  -- each tree of the set has at least as many nodes as the cap
  abbrev pub HasNoTreeBelow : Row → Type 0
  HasNoTreeBelow q = (t : Tree L) → Fits ranks D t → set_of rules t ≡ q → cap ≤ node_count t

module _ {L : Type 0} (cap : ℕ) (ranks : List ℕ) (has keeps : L → Type 0) (rules : List (List (Rule L))) where
  -- sets that trees have, each once, each with the number of nodes of a least tree and how one of kept labels is made
  pub record AreClasses (found : List (Found L)) : Type 0 where
    pub sets : AreSets ranks keeps rules (rows_of found)
    pub made : AreMade cap ranks keeps rules found
    pub least : Each (IsLeast cap ranks has rules) found

  -- a tree of kept labels that has the set, with the fewest nodes, fewer than the cap, and at most so deep
  pub record IsLeastTree (deep : ℕ) (q : Row) (t : Tree L) : Type 0 where
    pub fits : Fits ranks keeps t
    pub set_is : set_of rules t ≡ q
    pub least : (u : Tree L) → Fits ranks has u → set_of rules u ≡ q → node_count t ≤ node_count u
    pub small : node_count t < cap
    pub shallow : depth t ≤ deep
