-- One class of each kind.
use Rattle.std.specs.Prelude.{ℕ, ◌≡◌, ◌<◌, List, [], map, get_or, length, Contains, Vec}
use Rattle.sta_classes.specs.Plain.{PlainTable, kind_at}
use Rattle.sta_classes.specs.Rows.{lists_of}

-- the lists of lists
abbrev pub nested : {X G H : Type 0} → List (Vec (Vec X G) H) → List (List (List X))
nested vs = map (λ v. lists_of v.items) vs

module _ {A V : Type 0} (t : PlainTable A V) where
  -- of the first n classes some, with all kinds at the place
  pub record AreOfAllKinds (c j n : ℕ) (classes : List ℕ) : Type 0 where
    pub low : (k : ℕ) → Contains classes k → k < n
    pub all : (k : ℕ) → k < n → (i : ℕ) × Contains classes i × (kind_at t c j i ≡ kind_at t c j k)

  pub record AreOfPlaces (c n : ℕ) (places : List (List ℕ)) : Type 0 where
    pub many : length places ≡ n
    pub each : (j : ℕ) → j < n → AreOfAllKinds c j (length t.found) (get_or places j [])

  pub record AreOfAllPlaces {G H : Type 0} (ranks : List ℕ) (n : ℕ) (kinds : List (Vec (Vec ℕ G) H)) : Type 0 where
    pub many : length (nested kinds) ≡ n
    pub each : (c : ℕ) → c < n → AreOfPlaces c (get_or ranks c 0) (get_or (nested kinds) c [])
