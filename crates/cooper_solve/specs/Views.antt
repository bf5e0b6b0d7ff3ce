-- What the search's values stand for.
use Rattle.std.specs.Prelude.{ℕ, zero, suc, ℤ, pos, negsuc, ◌+ℤ◌, ◌*ℤ◌, neg_ℤ, ◌<ℤ◌, ◌+◌, ◌≡◌, ◌<◌, Bool, true, false, List, [], length, slice_index_or}
use Rattle.std.specs.List.{All, Contains}
use Rattle.math_cooper.specs.Line.{Kind, AtLeastZero, DividedBy}
use Rattle.math_cooper.specs.System.{Condition, Affine, HasWidth, lead, sign, low_form, high_form, free_form, put_all, IsLowAt, IsHighAt, IsSolvable}
use Rattle.math_cooper.specs.Puts.{Put, IsPut, Absent, Occurs, InCondition, InSystem, IsWide, OfAffine}
use Rattle.cooper_solve.specs.declared.constraint.Stop.{Stop}
use Rattle.cooper_solve.specs.declared.constraint.Stop.TheVariants.{TooWide, Memory}
use Rattle.cooper_solve.specs.declared.constraint.Direction.{Direction}
use Rattle.cooper_solve.specs.declared.constraint.Direction.TheVariants.{Low, High, Free}

abbrev pub OccursIf : ℕ → List Condition → Bool → Type 0
OccursIf i S true = Occurs i S
OccursIf i S false = Absent i S

-- where there is a divisor, it is positive
abbrev pub IsPositive : Condition → Type 0
IsPositive c = (m : ℕ) → c.kind ≡ DividedBy m → 0 < m

-- a system of n variables
abbrev pub IsSystem : ℕ → List Condition → Type 0
IsSystem n S = All (HasWidth n) S × All IsPositive S

-- the cause, where it isn't want of memory
abbrev pub OnWide : Type 0 → Stop → Type 0
OnWide P TooWide = P
OnWide P Memory = Unit {0}

-- the divisor is outside 128 bits
abbrev pub WideKind : Kind → Type 0
WideKind k = (m : ℕ) × (k ≡ DividedBy m) × IsWide (pos m)

-- some number of a condition, or of a system, is outside 128 bits
abbrev pub WideIn : Condition → Type 0
WideIn c = (z : ℤ) × InCondition c z × IsWide z

abbrev pub WideInSystem : List Condition → Type 0
WideInSystem S = (z : ℤ) × InSystem S z × IsWide z

-- ---- the numbers whose least common multiple a step takes

abbrev pub unless_zero : ℤ → ℤ → ℤ
unless_zero (pos zero) n = pos 1
unless_zero (pos (suc k)) n = n
unless_zero (negsuc k) n = n

-- the coefficient of variable i, or 1
abbrev pub scale_number : ℕ → Condition → ℤ
scale_number i c = unless_zero (lead i c) (lead i c)

abbrev pub divisor_of : Kind → ℤ
divisor_of AtLeastZero = pos 1
divisor_of (DividedBy m) = pos m

-- the divisor of a condition that has variable i, or 1
abbrev pub period_number : ℕ → Condition → ℤ
period_number i c = unless_zero (lead i c) (divisor_of c.kind)

-- ---- puts

-- the coefficient of variable i is 1, -1 or 0
abbrev pub IsUnitLead : ℕ → Condition → Type 0
IsUnitLead i c = lead i c ≡ sign (lead i c)

-- from a lower bound up, from an upper bound down, or from 0 up
abbrev pub no_condition : Condition
no_condition = record { kind = AtLeastZero; constant = pos 0; coefficients = [] }

abbrev pub base_form : Direction → ℕ → List Condition → ℕ → ℕ → Affine
base_form Low i R k j = low_form i (slice_index_or R k no_condition) j
base_form High i R k j = high_form i (slice_index_or R k no_condition) j
base_form Free i R k j = free_form i j

-- the number of a condition, where there is a bound
abbrev pub IsBase : Direction → List Condition → ℕ → Type 0
IsBase Low R k = k < length R
IsBase High R k = k < length R
IsBase Free R k = Unit {0}

abbrev pub WideInForm : Affine → Type 0
WideInForm g = (z : ℤ) × OfAffine g z × IsWide z

abbrev pub one : Bool → ℤ
one true = negsuc 0
one false = pos 1

-- a sum of two rows, the second times 1 or -1, has a number outside 128 bits
abbrev pub WideSum : Bool → List ℤ → List ℤ → Type 0
WideSum minus f g = (k : ℕ) × (k < length f) × IsWide (slice_index_or f k (pos 0) +ℤ (one minus *ℤ slice_index_or g k (pos 0)))

-- ---- bounds

-- the condition bounds variable i from below, or else from above
abbrev pub IsBoundAt : Bool → ℕ → Condition → Type 0
IsBoundAt true i c = IsLowAt i c
IsBoundAt false i c = IsHighAt i c

-- numbers of conditions that bound variable i, with an equal one for each of the first n that does
pub record AreBounds (low : Bool) (i : ℕ) (S : List Condition) (n : ℕ) (L : List ℕ) : Type 0 where
  pub each : All (λ k. (k < length S) × IsBoundAt low i (slice_index_or S k no_condition)) L
  pub covers : (k : ℕ) → k < n → k < length S → IsBoundAt low i (slice_index_or S k no_condition) → (m : ℕ) × Contains L m × (slice_index_or S m no_condition ≡ slice_index_or S k no_condition)

-- each of these is the bound of puts, and what a put gives is given by one of these
pub record AreBases (i : ℕ) (S : List Condition) (d : Direction) (L : List ℕ) : Type 0 where
  pub each : All (λ k. IsBase d S k × ((j : ℕ) → IsPut i S (record { variable = i; bound = k; offset = j }) (base_form d i S k j))) L
  pub covers : (p : Put) (g : Affine) → IsPut i S p g → (k : ℕ) × Contains L k × (g ≡ base_form d i S k p.offset)

-- ---- skipped offsets

-- by how much the value of a condition grows from one offset to the next
abbrev pub slope : Direction → ℤ → ℤ
slope Low a = a
slope High a = neg_ℤ a
slope Free a = a

-- where T is the system with the put at offset j, the put at no offset from j to j + n - 1 has a solution
abbrev pub NoneFrom : ℕ → Direction → List Condition → List Condition → ℤ → Type 0
NoneFrom i d S T n = (k j : ℕ) → T ≡ put_all i (base_form d i S k j) S → (s : ℕ) → pos s <ℤ n → IsSolvable i (put_all i (base_form d i S k (j + s)) S) → ⊥
