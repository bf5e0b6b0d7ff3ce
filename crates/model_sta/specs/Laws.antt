-- What the definitions have in common.
use Rattle.std.specs.Prelude.{ℕ, suc, ◌≡◌, ◌<◌, ◌≤◌, ◌⊎◌, ◌↔◌, Bool, IsTrue, List, [], get_or, length, Contains}
use Rattle.model_tree.specs.Tree.{Tree, node, Trees, node_count, depth}
use Rattle.model_sta.specs.Automaton.{Rule, is_accepted}
use Rattle.model_sta.specs.Accepts.{Accepts}
use Rattle.model_sta.specs.Sets.{Row, Each, has, step, set_of, sets_of, Agree, Fits}
use Rattle.model_sta.specs.Reached.{IsReached, Covers, IsClosed, IsComplete}
use Rattle.model_sta.specs.Least.{Found, rows_of, counts_of, AreMade, IsLeast, CostsAtLeast}

-- the test holds exactly where the tree is accepted in words of existence
abbrev pub TestIsFact : Type 0 → Type 0
TestIsFact L = (rules : List (List (Rule L))) (t : Tree L) (s : ℕ) → IsTrue (is_accepted rules t s) ↔ Accepts rules t s

-- the set of a tree has exactly the states that accept it
abbrev pub SetIsAccepted : Type 0 → Type 0
SetIsAccepted L = (rules : List (List (Rule L))) (t : Tree L) (s : ℕ) → has (set_of rules t) s ≡ is_accepted rules t s

-- the label counts only by the guards of the constructor
abbrev pub StepAgrees : Type 0 → Type 0
StepAgrees L = (rules : List (List (Rule L))) (c : ℕ) (l m : L) (qs : List Row) → Agree rules c l m → step rules c m qs ≡ step rules c l qs

-- the children count only by their sets
abbrev pub SetByChildren : Type 0 → Type 0
SetByChildren L = (rules : List (List (Rule L))) (c : ℕ) (l : L) (ts us : Trees L) → sets_of rules ts ≡ sets_of rules us → set_of rules (node c l ts) ≡ set_of rules (node c l us)

-- the laws below are over labels of the meaning that a test tells
abbrev Told : {L : Type 0} → (L → Bool) → L → Type 0
Told d l = IsTrue (d l)

-- a closed list of sets has the set of each tree
abbrev pub ClosedIsComplete : Type 0 → Type 0
ClosedIsComplete L = (ranks : List ℕ) (d : L → Bool) (rules : List (List (Rule L))) (values : ℕ → List L) (known : List Row)
    → Covers ranks (Told d) rules values → IsClosed ranks (Told d) rules values known → IsComplete ranks (Told d) rules known

-- a node over sets that trees have has a set that a tree has
abbrev pub StepIsReached : Type 0 → Type 0
StepIsReached L = (ranks : List ℕ) (d : L → Bool) (rules : List (List (Rule L))) (c : ℕ) → c < length ranks → (l : L) → Told d l → (qs : List Row) → length qs ≡ get_or ranks c 0
    → Each (IsReached ranks (Told d) rules) qs → IsReached ranks (Told d) rules (step rules c l qs)

-- where each node over found sets has a found set or costs at least m, each tree has a found set or at least m nodes
abbrev pub LeastBound : Type 0 → Type 0
LeastBound L = (cap : ℕ) (ranks : List ℕ) (d : L → Bool) (rules : List (List (Rule L))) (values : ℕ → List L) (found : List (Found L)) (m : ℕ)
    → Covers ranks (Told d) rules values → Each (IsLeast cap ranks (Told d) rules) found → CostsAtLeast cap ranks (Told d) rules values found m
    → (t : Tree L) → Fits ranks (Told d) t → Contains (rows_of found) (set_of rules t) ⊎ (m ≤ node_count t)

-- classes that are each made from earlier ones have trees: with as many nodes as are kept, where these are fewer than
-- the cap, and no deeper than there are classes up to them
abbrev pub HasWitness : Type 0 → Type 0
HasWitness L = (cap : ℕ) (ranks : List ℕ) (d : L → Bool) (rules : List (List (Rule L))) (found : List (Found L)) → AreMade cap ranks (Told d) rules found → (k : ℕ) → k < length found
    → (t : Tree L) × Fits ranks (Told d) t × (set_of rules t ≡ get_or (rows_of found) k []) × (get_or (counts_of found) k 0 < cap → node_count t ≡ get_or (counts_of found) k 0) × (depth t ≤ suc k)
