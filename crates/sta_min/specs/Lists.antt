-- Lists of numbers, one from the choices for each place.
use Rattle.std.specs.Prelude.{ℕ, ◌≡◌, ◌<◌, List, [], get_or, length, Contains}

-- a list for the first n places
abbrev pub IsListOf : List (List ℕ) → ℕ → List ℕ → Type 0
IsListOf choices n ks = (length ks ≡ n) × ((j : ℕ) → j < n → Contains (get_or choices j []) (get_or ks j 0))
