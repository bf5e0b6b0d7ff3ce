-- Chains of Cooper's method: the choices that lead from literals through systems to a solution or a wide number.
use Rattle.std.specs.Prelude.{ℕ, suc, ℤ, pos, neg_ℤ, ◌≡◌, ◌-◌, ◌^◌, ◌<◌, Bool, true, false, cond, ◌⊎◌, List, [], ◌∷◌, ◌++◌, map, length, slice_index_or}
use Rattle.model_tree.specs.Limits.{most_fields}
use Rattle.model_tree.specs.Range.{label_bits, IsLabelNumber}
use Rattle.math_cooper.specs.System.{Condition}
use Rattle.math_cooper.specs.Puts.{Put, Passes128, IsSolution}
use Rattle.model_chain.specs.Literals.{Literal, remainders_in, width, needs_side, count_sides, own_side, later_sides, literals_conditions, remainders_conditions, bounds_conditions}

-- a side for the negated equality with this number, where true takes a - b - 1 >= 0; or a put
pub data Choice : Type 0 where
  side : ℕ → Bool → Choice
  take_put : Put → Choice

pub record Chain : Type 0 where
  pub literals : List Literal
  pub choices : List Choice
  pub bounded : Bool

-- the least and the greatest number of the label range
abbrev pub least : ℤ
least = neg_ℤ (pos (2 ^ label_bits))

abbrev pub greatest : ℤ
greatest = pos (2 ^ label_bits - 1)

-- the system that literals with sides begin with: the literals' conditions, the new variables', and the bounds'
abbrev pub first_system : List Literal → Bool → List Bool → List Condition
first_system ls bounded sides = let R = remainders_in ls in
    literals_conditions R ls sides ++ remainders_conditions R most_fields R ++ cond bounded (bounds_conditions R least greatest ls 0 most_fields) []

abbrev pub count_variables : List Literal → ℕ
count_variables ls = width (remainders_in ls)

-- the choices of sides, from literal k on: one for each negated equality
abbrev pub side_choices : ℕ → List Literal → List Bool → List Choice
side_choices k [] sides = []
side_choices k (l ∷ ls) sides = cond (needs_side l) (side k (own_side l sides) ∷ []) [] ++ side_choices (suc k) ls (later_sides l sides)

-- the sides and the puts among the choices
abbrev pub sides_in : List Choice → List Bool
sides_in [] = []
sides_in (side k b ∷ cs) = b ∷ sides_in cs
sides_in (take_put p ∷ cs) = sides_in cs

abbrev pub puts_in : List Choice → List Put
puts_in [] = []
puts_in (side k b ∷ cs) = puts_in cs
puts_in (take_put p ∷ cs) = p ∷ puts_in cs

-- the choices are a side for each negated equality, by its number, and then puts
pub record IsChosen (C : Chain) : Type 0 where
  pub for_each : length (sides_in C.choices) ≡ count_sides C.literals
  pub in_order : C.choices ≡ side_choices 0 C.literals (sides_in C.choices) ++ map take_put (puts_in C.choices)

-- a number of the chain is outside 128 bits
abbrev pub HasWide : Chain → Type 0
HasWide C = IsChosen C × Passes128 (count_variables C.literals) (first_system C.literals C.bounded (sides_in C.choices)) (puts_in C.choices)

-- a solution is outside the label range: one of its fields is
abbrev pub HasFarValue : List ℤ → Type 0
HasFarValue values = (k : ℕ) × (k < most_fields) × (IsLabelNumber (slice_index_or values k (pos 0)) → ⊥)

-- the chain is unbounded, no number of it is outside 128 bits, and its solution is outside the label range
abbrev pub IsFar : Chain → Type 0
IsFar C = (C.bounded ≡ false) × (HasWide C → ⊥) × IsChosen C
    × ((values : List ℤ) × IsSolution (count_variables C.literals) (first_system C.literals false (sides_in C.choices)) (puts_in C.choices) values × HasFarValue values)

-- by 128 bits a number is too wide, and where the chain is bounded some unbounded one of its literals is far; by 64 it is far
abbrev pub Passes : ℕ → Chain → Type 0
Passes bits C =
    ((bits ≡ 128) × HasWide C × (C.bounded ≡ true → (D : Chain) × (D.literals ≡ C.literals) × IsFar D))
    ⊎ ((bits ≡ 64) × IsFar C)
