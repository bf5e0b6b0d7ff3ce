-- What a step of Cooper's method keeps.
use Rattle.std.specs.Prelude.{ℕ, suc, ℤ, ◌↔◌, List, length, ◌≡◌}
use Rattle.std.specs.List.{All}
use Rattle.math_cooper.specs.System.{Condition, Affine, Solves, IsSolvable, HasWidth, unit_all}
use Rattle.math_cooper.specs.Puts.{Put, IsScale, IsPeriod, Step, after, IsSolution}

-- some put of variable i leaves a system with a solution
abbrev pub SomePut : ℕ → List Condition → ℕ → ℕ → Type 0
SomePut i S c D = (p : Put) × (g : Affine) × Step i S p c D g × IsSolvable i (after i c g S)

-- a system has a solution exactly where the system after one of its puts has
abbrev pub StepDecides : Type 0
StepDecides = (i : ℕ) (S : List Condition) (c D : ℕ) → All (HasWidth (suc i)) S → IsScale i S c → IsPeriod i (unit_all i c S) D → IsSolvable (suc i) S ↔ SomePut i S c D

-- the solution that puts give is one of the system that they begin with
abbrev pub SolutionSolves : Type 0
SolutionSolves = (n : ℕ) (S : List Condition) (puts : List Put) (vs : List ℤ) → All (HasWidth n) S → IsSolution n S puts vs → (length vs ≡ n) × Solves vs S
