-- Texts with numbers in them.
use Rattle.std.specs.Prelude.{ℕ, ◌==◌, List, [], ◌∷◌, cond}
use Rattle.std.specs.List.{flat_map}

-- the text with the one number for each K and the other one for each M
abbrev pub filled : List ℕ → List ℕ → List ℕ → List ℕ
filled own next = flat_map (λ c. cond (c == 75) own (cond (c == 77) next (c ∷ [])))
