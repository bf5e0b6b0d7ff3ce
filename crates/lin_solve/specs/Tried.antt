-- What the search over the sides of the negated equalities finds.
use Rattle.std.specs.Prelude.{ℕ, ◌≡◌, ◌≤◌, Bool, List, ◌++◌, length}
use Rattle.math_cooper.specs.System.{IsSolvable}
use Rattle.math_cooper.specs.Puts as plain
use Rattle.math_cooper.specs.Puts.{Passes128}
use Rattle.cooper_solve.specs.Told.{IsSolved, IsFarOff, puts_of}
use Rattle.model_chain.specs.Literals as chain
use Rattle.model_chain.specs.Literals.{count_sides}
use Rattle.model_chain.specs.Chains.{first_system, count_variables}
use Rattle.lin_solve.specs.declared.tried.Tried.{Tried}
use Rattle.lin_solve.specs.declared.tried.Tried.TheVariants.{Solved, Far, Wide, Unsat}

-- with so many sides more after these: values of a solution, sides and puts that lead far off or to a number that is
-- too wide, or that no sides have a solution
abbrev pub TellsSides : List chain.Literal → Bool → List Bool → ℕ → Tried → Type 0
TellsSides ls bounded ss left (Solved vs) = (more : List Bool) × (length more ≡ left) × (ps : List plain.Put) × IsSolved (count_variables ls) (first_system ls bounded (ss ++ more)) ps vs.items
TellsSides ls bounded ss left (Far s) = (more : List Bool) × (length more ≡ left) × (s.sides.items ≡ ss ++ more) × IsFarOff (count_variables ls) (first_system ls bounded (ss ++ more)) (puts_of s.puts.items)
TellsSides ls bounded ss left (Wide s) = (more : List Bool) × (length more ≡ left) × (s.sides.items ≡ ss ++ more) × Passes128 (count_variables ls) (first_system ls bounded (ss ++ more)) (puts_of s.puts.items)
TellsSides ls bounded ss left Unsat = (more : List Bool) → length more ≡ left → IsSolvable (count_variables ls) (first_system ls bounded (ss ++ more)) → ⊥

-- the first literals, of which no more than so many are negated equalities
pub record IsFront (sides : ℕ) (ls front : List chain.Literal) : Type 0 where
  pub behind : List chain.Literal
  pub is : ls ≡ front ++ behind
  pub few : count_sides front ≤ sides

-- with these sides, whatever comes behind them, there is no solution
abbrev pub NeverHold : List chain.Literal → List Bool → Type 0
NeverHold ls ss = (bounded : Bool) (more : List Bool) → IsSolvable (count_variables ls) (first_system ls bounded (ss ++ more)) → ⊥
