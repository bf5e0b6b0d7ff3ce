-- A variable as so many times a new one and a rest, and systems of which one has a solution.
use Rattle.std.specs.Prelude.{◌≡◌, ◌<◌, ◌≤ℤ◌, ◌+ℤ◌, ◌*ℤ◌, pos, ℕ, ℤ, Bool, IsTrue, List, length, slice_index_or}
use Rattle.std.specs.List.{Contains}
use Rattle.math_cooper.specs.System.{Condition, IsSolvable, Solves}
use Rattle.lin_reduce.specs.declared.cut.Bound.{Bound}
use Rattle.lin_reduce.specs.declared.moves.Scale.{Scale}
use Rattle.lin_reduce.specs.declared.moves.Shear.{Shear}
use Rattle.lin_reduce.specs.declared.nodes.Node.{Node}
use Rattle.lin_reduce.specs.declared.nodes.Look.{Look}
use Rattle.lin_reduce.specs.declared.nodes.Look.TheVariants as look
use Rattle.lin_reduce.specs.declared.nodes.Explored.{Explored}
use Rattle.lin_reduce.specs.declared.nodes.Explored.TheVariants.{Never, Maybe, Open}

-- the variable of these values is so many times w, and the rest
abbrev pub IsPart : Scale → List ℤ → ℤ → Type 0
IsPart s vs w = (s.of < length vs) × (slice_index_or vs s.of (pos 0) ≡ (s.times *ℤ w) +ℤ s.rest)

-- the variable of these values is w, and so many times another one
abbrev pub IsSheared : Shear → List ℤ → ℤ → Type 0
IsSheared s vs w = (s.of < length vs) × (s.by < length vs) × (slice_index_or vs s.of (pos 0) ≡ w +ℤ (s.times *ℤ slice_index_or vs s.by (pos 0)))

-- so many times a variable of these values, and the constant, is at least 0
abbrev pub IsWithin : Bound → List ℤ → Type 0
IsWithin b vs = pos 0 ≤ℤ ((b.times *ℤ slice_index_or vs b.of (pos 0)) +ℤ b.constant)

-- a solution of the system has such a variable
pub record IsPartSolvable (n : ℕ) (s : Scale) (S : List Condition) : Type 0 where
  pub values : List ℤ
  pub own : ℤ
  pub many : length values ≡ n
  pub part : IsPart s values own
  pub solves : Solves values S

-- one of the systems has a solution
pub record AnySolvable (n : ℕ) (nodes : List Node) : Type 0 where
  pub node : Node
  pub among : Contains nodes node
  pub solvable : IsSolvable n node.system.items

-- what never has a solution has none
abbrev pub TellsNever : ℕ → List Condition → Explored → Type 0
TellsNever n S Never = IsSolvable n S → ⊥
TellsNever n S (Maybe values) = Unit {0}
TellsNever n S Open = Unit {0}

-- where conditions clash no values meet them
abbrev pub TellsClash : ℕ → List Condition → Bool → Type 0
TellsClash n S clash = IsTrue clash → IsSolvable n S → ⊥

-- what is lost is met by no values
abbrev pub TellsLook : List Condition → Look → Type 0
TellsLook S look.Lost = (vs : List ℤ) → Solves vs S → ⊥
TellsLook S (look.Maybe values) = Unit {0}
TellsLook S (look.Split split) = Unit {0}
TellsLook S (look.Cut cut) = Unit {0}
TellsLook S (look.Solve place) = Unit {0}
TellsLook S look.Open = Unit {0}
