-- What literals, their conditions and chains have to do with each other.
use Rattle.std.specs.Prelude.{ℤ, ◌≡◌, ◌<◌, ◌↔◌, Bool, false, List, ◌++◌, length}
use Rattle.std.specs.List.{All}
use Rattle.model_tree.specs.Limits.{most_fields}
use Rattle.math_cooper.specs.System.{Solves}
use Rattle.model_chain.specs.Literals.{Literal, AreLiteralsOver, HoldsAll, remainders_in, count_sides}
use Rattle.model_chain.specs.Chains.{Chain, first_system, IsFar, HasFarValue}

-- each remainder in the literals is by a positive number
abbrev pub AreDivisorsPositive : List Literal → Type 0
AreDivisorsPositive ls = All (λ r. 0 < r.divisor) (remainders_in ls)

-- literals hold at values of the fields exactly where, with some sides and some values of the new variables, their
-- conditions do
abbrev pub HoldWhereSolved : Type 0
HoldWhereSolved = (ls : List Literal) (us : List ℤ) → AreLiteralsOver most_fields ls → AreDivisorsPositive ls → length us ≡ most_fields
    → HoldsAll ls us ↔ ((sides : List Bool) × (length sides ≡ count_sides ls) × (rest : List ℤ) × Solves (us ++ rest) (first_system ls false sides))

-- the literals of a far chain hold at values of which one is outside the label range
abbrev pub FarHasValues : Type 0
FarHasValues = (C : Chain) → AreLiteralsOver most_fields C.literals → IsFar C → (us : List ℤ) × (length us ≡ most_fields) × HoldsAll C.literals us × HasFarValue us
