-- What a list has after more are put into it.
use Rattle.std.specs.Prelude.{◌↔◌, ◌⊎◌, List, Contains}

-- the new list has exactly what the old one has and what is wanted
abbrev pub Grown : {X : Type 0} → List X → List X → (X → Type 0) → Type 0
Grown {X} old new W = (p : X) → Contains new p ↔ (Contains old p ⊎ W p)

-- some element of the list wants it
abbrev pub Some : {X Y : Type 0} → (X → Y → Type 0) → List X → Y → Type 0
Some {X} R xs p = (r : X) × Contains xs r × R r p
