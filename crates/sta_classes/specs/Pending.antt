-- Sets that trees have, and the candidates for those that are no classes yet.
use Rattle.std.specs.Prelude.{ℕ, suc, ◌+◌, ◌-◌, ◌≡◌, ◌<◌, ◌≤◌, ◌==◌, ◌&&◌, ◌⊎◌, ◌↔◌, Bool, false, if◌then◌else◌, nat_lt, nat_le, List, [], ◌∷◌, ◌++◌, get_or, set, length, Contains, Option, None, Some}
use Rattle.std.specs.BinaryHeap.{heap_items, IsHeap}
use Rattle.std.specs.Ordering.{nat_cmp, ordering_then}
use Rattle.model_tree.specs.Label.{Label}
use Rattle.model_sta.specs.Sets.{Row}
use Rattle.model_sta.specs.Least.{Found}
use Rattle.sta_classes.specs.Rows.{found_of}
use Rattle.sta_classes.specs.declared.class.Class.{Class}
use Rattle.sta_classes.specs.declared.class.TheConstants.{CAP}
use Rattle.sta_classes.specs.declared.pending.Pending.{Pending}

-- how many are none
abbrev pub count_none : {X : Type 0} → List (Option X) → ℕ
count_none [] = 0
count_none (None ∷ xs) = suc (count_none xs)
count_none (Some x ∷ xs) = count_none xs

-- the element stands at the place, which is past the end or has one already
abbrev pub kept_at : {X : Type 0} → List (Option X) → ℕ → X → List (Option X)
kept_at xs i x = if i == length xs then xs ++ Some x ∷ [] else set xs i (Some x)

module _ {V : Type 0} where
  -- there is a candidate that has more nodes than these
  abbrev pub is_dearer : Option (Class V) → ℕ → Bool
  is_dearer None n = false
  is_dearer (Some c) n = nat_lt n c.nodes

  -- there is a candidate that leaves so many nodes up to the cap
  abbrev pub leaves : Option (Class V) → ℕ → Bool
  leaves None room = false
  leaves (Some c) room = nat_le c.nodes CAP && (CAP - c.nodes == room)

  -- the candidate of the set with this number
  abbrev pub IsPending : Pending V → ℕ → Class V → Type 0
  IsPending s i c = (i < length s.best.items) × (get_or s.best.items i None ≡ Some c)

  -- a set that is there and has no candidate: it is a class
  abbrev pub IsSettled : Pending V → Row → Type 0
  IsSettled s q = (i : ℕ) × (i < length s.best.items) × (get_or s.sets.keys i [] ≡ q) × (get_or s.best.items i None ≡ None)

  -- the set is there, and its candidate, if it has one, has at most so many nodes
  abbrev pub IsMet : Pending V → Row → ℕ → Type 0
  IsMet s q n = (i : ℕ) × (i < length s.best.items) × (get_or s.sets.keys i [] ≡ q) × ((c : Class V) → get_or s.best.items i None ≡ Some c → c.nodes ≤ n)

  -- what is met stays so
  abbrev pub IsBetter : Pending V → Pending V → Type 0
  IsBetter old new = (q : Row) (n : ℕ) → IsMet old q n → IsMet new q n

  -- each candidate is of the set with its number, and stands in the order by what it leaves up to the cap
  pub record AreKept (s : Pending V) : Type 0 where
    pub many : length s.sets.keys ≡ length s.best.items
    pub apart : (i m : ℕ) → i < length s.sets.keys → m < length s.sets.keys → get_or s.sets.keys i [] ≡ get_or s.sets.keys m [] → i ≡ m
    pub rows : (i : ℕ) (c : Class V) → IsPending s i c → (c.row ≡ get_or s.sets.keys i []) × (c.nodes ≤ CAP)
    pub queued : (i : ℕ) (c : Class V) → IsPending s i c → Contains (heap_items s.order) (CAP - c.nodes, i)
    pub within : (x : ℕ × ℕ) → Contains (heap_items s.order) x → x.1 < length s.best.items
    pub ordered : IsHeap (λ x y. ordering_then (nat_cmp x.0 y.0) (nat_cmp x.1 y.1)) (heap_items s.order)

  -- the tree is kept for its set, unless that is a class or has a candidate with no more nodes
  pub record IsOffered (label : V → Label) (old new : Pending V) (f : Found Label) : Type 0 where
    pub met : IsMet new f.row f.nodes
    pub better : IsBetter old new
    pub candidates : (i : ℕ) (c : Class V) → IsPending new i c → ((j : ℕ) × IsPending old j c) ⊎ (found_of label c ≡ f)
    pub settled : (q : Row) → IsSettled new q ↔ IsSettled old q
    pub count : count_none new.best.items ≡ count_none old.best.items

  -- a candidate with the fewest nodes is taken, and its set settled
  pub record IsTaken (old new : Pending V) (c : Class V) : Type 0 where
    pub sets_are : new.sets ≡ old.sets
    pub member : (i : ℕ) × IsPending old i c
    pub least : (i : ℕ) (d : Class V) → IsPending old i d → c.nodes ≤ d.nodes
    pub better : IsBetter old new
    pub candidates : (i : ℕ) (d : Class V) → IsPending new i d → IsPending old i d
    pub settled : (q : Row) → IsSettled new q ↔ (IsSettled old q ⊎ (c.row ≡ q))
    pub count : count_none new.best.items ≡ count_none old.best.items + 1

  -- there is no candidate, and nothing has changed but the order
  pub record IsDone (old new : Pending V) : Type 0 where
    pub none : (i : ℕ) (c : Class V) → ¬ IsPending old i c
    pub sets_are : new.sets ≡ old.sets
    pub best_are : new.best ≡ old.best
