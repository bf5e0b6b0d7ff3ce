-- Lists by what stands at each place.
use Rattle.std.specs.Prelude.{ℕ, zero, suc, List, [], ◌∷◌}

-- f at each number below n
abbrev pub tabulate : {X : Type 0} → ℕ → (ℕ → X) → List X
tabulate zero f = []
tabulate (suc n) f = f 0 ∷ tabulate n (λ i. f (suc i))
