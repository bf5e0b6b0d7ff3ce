-- Lists by their places and by what is in them.
use Rattle.std.specs.Prelude.{◌≡◌, ◌<◌, ◌==◌, ℕ, zero, suc, cond, List, [], ◌∷◌, ◌++◌, map, get_or, length, Contains, ⊤}
use Rattle.std.specs.List.{list_any, flat_map}

-- f of each x and each y
abbrev pub pairs : {X Y Z : Type 0} → (X → Y → Z) → List X → List Y → List Z
pairs f xs ys = flat_map (λ x. map (f x) ys) xs

-- place by place
abbrev pub merge : {X : Type 0} → List (List X) → List (List X) → List (List X)
merge [] ys = ys
merge (x ∷ xs) [] = x ∷ xs
merge (x ∷ xs) (y ∷ ys) = (x ++ y) ∷ merge xs ys

-- at place j alone
abbrev pub alone : {X : Type 0} → ℕ → X → List (List X)
alone zero x = (x ∷ []) ∷ []
alone (suc j) x = [] ∷ alone j x

-- each number once
abbrev pub once : List ℕ → List ℕ
once [] = []
once (s ∷ Z) = cond (list_any (λ t. t == s) Z) (once Z) (s ∷ once Z)

-- the same numbers, in whatever order, and however often
abbrev pub SameStates : List ℕ → List ℕ → Type 0
SameStates Z W = ((s : ℕ) → Contains Z s → Contains W s) × ((s : ℕ) → Contains W s → Contains Z s)

-- no number twice
abbrev pub IsOnce : List ℕ → Type 0
IsOnce [] = ⊤
IsOnce (s ∷ Z) = ¬ (Contains Z s) × IsOnce Z

-- x stands at this place
abbrev pub IsAt : {X : Type 0} → List X → ℕ → X → Type 0
IsAt xs i x = (i < length xs) × (get_or xs i x ≡ x)

-- each stands there at the same place
abbrev pub Extends : {X : Type 0} → List X → List X → Type 0
Extends {X} xs ys = (i : ℕ) (x : X) → IsAt xs i x → IsAt ys i x

-- each has one of the others to which it is related
abbrev pub Match : {X Y : Type 0} → (X → Y → Type 0) → List X → List Y → Type 0
Match {X} {Y} R xs ys = ((x : X) → Contains xs x → (y : Y) × Contains ys y × R x y) × ((y : Y) → Contains ys y → (x : X) × Contains xs x × R x y)
