-- What one offset, and a variable that occurs nowhere, add to what is found.
use Rattle.std.specs.Prelude.{ℕ, ℤ, pos, ◌+ℤ◌, ◌<ℤ◌, ◌≤ℤ◌, ◌≡◌, ◌<◌, ◌≤◌, ◌+◌, ◌⊎◌, List, [], ◌∷◌, ◌++◌, unsigned_abs}
use Rattle.math_cooper.specs.System.{Condition, put_all, IsSolvable}
use Rattle.cooper_solve.specs.declared.constraint.Direction.{Direction}
use Rattle.cooper_solve.specs.declared.found.Found.{Found}
use Rattle.cooper_solve.specs.declared.found.Found.TheVariants.{Solved, Far, Wide, Unsat}
use Rattle.cooper_solve.specs.declared.search.Turn.{Turn}
use Rattle.cooper_solve.specs.declared.search.Turn.TheVariants.{Skip, Stop}
use Rattle.cooper_solve.specs.Views.{base_form}
use Rattle.cooper_solve.specs.Told.{AtOffset, IsFound}

abbrev pub TellsTurn : ℕ → ℤ → ℤ → Direction → List Condition → ℕ → ℤ → Turn → Type 0
TellsTurn i c D d R k o (Skip n) = (pos 0 <ℤ n) × ((o +ℤ n) ≤ℤ D) × ((s : ℕ) → pos s <ℤ n → IsSolvable i (put_all i (base_form d i R k (unsigned_abs o + s)) R) → ⊥)
TellsTurn i c D d R k o (Stop f) = IsFound f × AtOffset i (unsigned_abs c) (unsigned_abs D) d R k f

-- the value 0 at the end, where it is one of the first eight
abbrev pub PassesOver : ℕ → Found → Found → Type 0
PassesOver i (Solved s) (Solved t) = (t.puts.items ≡ s.puts.items) × (((i < 8) × (t.values.items ≡ s.values.items ++ pos 0 ∷ [])) ⊎ ((8 ≤ i) × (t.values.items ≡ s.values.items)))
PassesOver i (Solved s) (Far ps) = ⊥
PassesOver i (Solved s) (Wide ps) = ⊥
PassesOver i (Solved s) Unsat = ⊥
PassesOver i (Far ps) f = f ≡ Far ps
PassesOver i (Wide ps) f = f ≡ Wide ps
PassesOver i Unsat f = f ≡ Unsat
