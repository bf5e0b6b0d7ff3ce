-- What holds of each two elements of a list.
use Rattle.std.specs.Prelude.{◌≡◌, List, [], ◌∷◌}
use Rattle.std.specs.List.{All}

-- R holds of each two elements, the earlier one first
abbrev pub EachTwo : {X : Type 0} → (X → X → Type 0) → List X → Type 0
EachTwo R [] = Unit {0}
EachTwo R (x ∷ xs) = All (R x) xs × EachTwo R xs

-- no two of them are one
abbrev pub AreDifferent : {X : Type 0} → List X → Type 0
AreDifferent = EachTwo (λ x y. ¬ (x ≡ y))
