-- Lists of classes for the places of a constructor.
use Rattle.std.specs.Prelude.{ℕ, ◌≡◌, ◌<◌, ◌-◌, List, [], get_or, length, Contains}

-- the class is at this place, and at none before it
abbrev pub MayStand : ℕ → ℕ → ℕ → ℕ → Type 0
MayStand place class j k = (j ≡ place → k ≡ class) × (j < place → ¬ (k ≡ class))

-- as many as there are places, from the classes of each, with the class at this place, and at none before it
abbrev pub IsListWith : List (List ℕ) → ℕ → ℕ → ℕ → List ℕ → Type 0
IsListWith classes place class n ks = (length ks ≡ n) × ((j : ℕ) → j < n → Contains (get_or classes j []) (get_or ks j 0) × MayStand place class j (get_or ks j 0))

-- as many as there are places, from the classes of each, with the last of so many classes among them if there are any
abbrev pub IsNewList : List (List ℕ) → ℕ → List ℕ → Type 0
IsNewList classes n ks = (length ks ≡ length classes) × ((j : ℕ) → j < length classes → Contains (get_or classes j []) (get_or ks j 0)) × (0 < n → Contains ks (n - 1))
