-- How much of a search is left at most.
use Rattle.std.specs.Prelude.{ℕ, ◌+◌, ◌^◌, Bool, Option, Some, None, List, [], ◌∷◌}

-- how many atoms aren't known
abbrev pub count_open : List (Option Bool) → ℕ
count_open [] = 0
count_open (None ∷ known) = 1 + count_open known
count_open (Some b ∷ known) = count_open known

-- a branch weighs more than two in which one atom more is known
abbrev pub open_weight : List (Option Bool) → ℕ
open_weight known = 3 ^ count_open known

abbrev pub weight : List (List (Option Bool)) → ℕ
weight [] = 0
weight (known ∷ rest) = open_weight known + weight rest
