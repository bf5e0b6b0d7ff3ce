-- The kinds of classes at a place, as a program numbers them.
use Rattle.std.specs.Prelude.{ℕ, ◌≡◌, ◌<◌, ◌≤◌, ◌⊎◌, ◌↔◌, ◌++◌, List, [], ◌∷◌, map, get_or, length, Contains, Vec}
use Rattle.model_sta.specs.Sets.{Row, has}
use Rattle.sta_core.specs.declared.StaRule.{StaRule}
use Rattle.sta_classes.specs.declared.place.Place.{Place}

module _ {A : Type 0} where
  -- the rule has the constructor, and demands the state at the place
  abbrev pub AsksFor : ℕ → ℕ → StaRule A → ℕ → Type 0
  AsksFor c j r s = (r.constructor ≡ c) × Contains (get_or (map (λ d. d.items) r.demands.items) j []) s

  -- exactly the states that rules with the constructor demand at the place
  abbrev pub AreAsked : {G : Type 0} → List (Vec (StaRule A) G) → ℕ → ℕ → List ℕ → Type 0
  AreAsked {G} rules c j states = (s : ℕ) → Contains states s ↔ ((those : Vec (StaRule A) G) × Contains rules those × ((r : StaRule A) × Contains those.items r × AsksFor c j r s))

-- The classes with these sets are of kinds with these numbers. The keys say which of the states the classes of a kind
-- have, and the first class of each kind is listed.
pub record AreNumbered (states kind_of firsts : List ℕ) (keys rows : List Row) : Type 0 where
  pub many : length kind_of ≡ length rows
  pub low : (k : ℕ) → k < length rows → get_or kind_of k 0 < length keys
  pub keys_are : (k : ℕ) → k < length rows → get_or keys (get_or kind_of k 0) [] ≡ map (has (get_or rows k [])) states
  pub distinct : (i m : ℕ) → i < length keys → m < length keys → get_or keys i [] ≡ get_or keys m [] → i ≡ m
  pub one_each : length firsts ≡ length keys
  pub few : length firsts ≤ length rows
  pub firsts_low : (i : ℕ) → i < length firsts → get_or firsts i 0 < length rows
  pub firsts_are : (i : ℕ) → i < length firsts → get_or kind_of (get_or firsts i 0) 0 ≡ i
  pub first : (k : ℕ) → k < length rows → get_or firsts (get_or kind_of k 0) 0 ≤ k

abbrev pub IsNumbered : List Row → Place → Type 0
IsNumbered rows p = AreNumbered p.states.items p.kind_of.items p.firsts.items p.kinds.keys rows

-- so many classes are of kinds at each of the places
abbrev pub AreNumberedFor : ℕ → List Place → Type 0
AreNumberedFor n places = (rows : List Row) × (length rows ≡ n) × ((j : ℕ) (p : Place) → j < length places → get_or places j p ≡ p → IsNumbered rows p)

-- the list is as it was, or the next class is put behind it
abbrev pub IsLonger : List ℕ → List ℕ → List ℕ → Type 0
IsLonger classes old new = (new ≡ old) ⊎ (new ≡ old ++ length classes ∷ [])

-- the same place with one more class of this set
pub record IsNext (row : Row) (old new : Place) : Type 0 where
  pub states_are : new.states.items ≡ old.states.items
  pub numbered : (rows : List Row) → IsNumbered rows old → IsNumbered (rows ++ row ∷ []) new
  pub longer : IsLonger old.kind_of.items old.firsts.items new.firsts.items
