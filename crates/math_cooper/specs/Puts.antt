-- The systems that a list of puts gives, their numbers, and the solution at the end.
use Rattle.std.specs.Prelude.{ℕ, zero, suc, ℤ, pos, ◌*ℤ◌, ◌≡◌, ◌≢◌, ◌/◌, ◌<◌, ◌≤◌, ◌⊎◌, List, [], ◌∷◌, ◌++◌, map, take, length, slice_index_or, unsigned_abs, FitsSigned}
use Rattle.std.specs.List.{All, Contains}
use Rattle.std.specs.Int.{w128}
use Rattle.math_cooper.specs.Line.{DividedBy}
use Rattle.math_cooper.specs.System.{Condition, Affine, Solves, lead, unit_all, put_all, low_form, high_form, free_form, affine_value, IsCommonAt, RepeatsAt, IsLowAt, IsHighAt}

-- a put: the variable, the number of the constraint whose bound is taken, and the offset
pub record Put : Type 0 where
  pub variable : ℕ
  pub bound : ℕ
  pub offset : ℕ

-- the least positive number with P
abbrev pub Least : (ℕ → Type 0) → ℕ → Type 0
Least P c = (0 < c) × P c × ((m : ℕ) → 0 < m → P m → c ≤ m)

-- c is the least common multiple of the coefficients of variable i
abbrev pub IsScale : ℕ → List Condition → ℕ → Type 0
IsScale i S c = Least (λ m. All (IsCommonAt i m) S) c

-- D is the least common multiple of the divisors of constraints with variable i
abbrev pub IsPeriod : ℕ → List Condition → ℕ → Type 0
IsPeriod i S D = Least (λ m. All (RepeatsAt i m) S) D

abbrev pub NoneLow : ℕ → List Condition → Type 0
NoneLow i S = All (λ c. IsLowAt i c → ⊥) S

abbrev pub NoneHigh : ℕ → List Condition → Type 0
NoneHigh i S = All (λ c. IsHighAt i c → ⊥) S

-- constraint k of S is b
abbrev pub IsAt : List Condition → ℕ → Condition → Type 0
IsAt S k b = (k < length S) × (slice_index_or S k b ≡ b)

-- g is what p puts for variable i: a lower bound where there is one, else an upper one where there is one, else the offset
abbrev pub IsPut : ℕ → List Condition → Put → Affine → Type 0
IsPut i S p g =
    ((b : Condition) × IsAt S p.bound b × IsLowAt i b × (g ≡ low_form i b p.offset))
    ⊎ ((NoneLow i S × (b : Condition) × IsAt S p.bound b × IsHighAt i b × (g ≡ high_form i b p.offset))
    ⊎ (NoneLow i S × NoneHigh i S × (p.bound ≡ length S) × (g ≡ free_form i p.offset)))

-- the system after the put of g for c times variable i
abbrev pub after : ℕ → ℕ → Affine → List Condition → List Condition
after i c g S = put_all i g (unit_all i c S)

-- variable i occurs in no constraint, or in some
abbrev pub Absent : ℕ → List Condition → Type 0
Absent i S = All (λ c. lead i c ≡ pos 0) S

abbrev pub Occurs : ℕ → List Condition → Type 0
Occurs i S = (c : Condition) × Contains S c × (lead i c ≢ pos 0)

-- without the place of variable i
abbrev pub cut_one : ℕ → Condition → Condition
cut_one i c = record { kind = c.kind; constant = c.constant; coefficients = take i c.coefficients }

abbrev pub cut : ℕ → List Condition → List Condition
cut i S = map (cut_one i) S

-- ---- the numbers

-- z is a coefficient, the constant or the divisor of c
abbrev pub InCondition : Condition → ℤ → Type 0
InCondition c z = Contains c.coefficients z ⊎ ((z ≡ c.constant) ⊎ ((m : ℕ) × (c.kind ≡ DividedBy m) × (z ≡ pos m)))

abbrev pub InSystem : List Condition → ℤ → Type 0
InSystem S z = (c : Condition) × Contains S c × InCondition c z

-- z is a multiplier: what makes a coefficient c or -c
abbrev pub IsMultiplier : ℕ → List Condition → ℕ → ℤ → Type 0
IsMultiplier i S c z = (b : Condition) × Contains S b × (lead i b ≢ pos 0) × (z ≡ pos (c / unsigned_abs (lead i b)))

-- z is c, a multiplier, or a number of the system with x' in place of x
abbrev pub OfScale : ℕ → List Condition → ℕ → ℤ → Type 0
OfScale i S c z = (z ≡ pos c) ⊎ (IsMultiplier i S c z ⊎ InSystem (unit_all i c S) z)

-- z is D
abbrev pub IsPeriodOf : ℕ → List Condition → ℕ → ℤ → Type 0
IsPeriodOf i S c z = (D : ℕ) × IsPeriod i (unit_all i c S) D × (z ≡ pos D)

abbrev pub OfAffine : Affine → ℤ → Type 0
OfAffine g z = Contains g.coefficients z ⊎ (z ≡ g.constant)

-- p puts g for variable i: a step of Cooper's method, with its c and D
pub record Step (i : ℕ) (S : List Condition) (p : Put) (c D : ℕ) (g : Affine) : Type 0 where
  pub is_scale : IsScale i S c
  pub is_period : IsPeriod i (unit_all i c S) D
  pub names : p.variable ≡ i
  pub below : p.offset < D
  pub is_put : IsPut i (unit_all i c S) p g

-- z is what a step has before its put: c, a multiplier, a number of the system with x', or D
abbrev pub BeforePut : ℕ → List Condition → ℤ → Type 0
BeforePut i S z = Occurs i S × (c : ℕ) × IsScale i S c × (OfScale i S c z ⊎ IsPeriodOf i S c z)

-- z is a number of the systems that the puts give, from S of n variables on
abbrev pub IsNumber : ℕ → List Condition → List Put → ℤ → Type 0
IsNumber zero S ps z = InSystem S z
IsNumber (suc i) S [] z = InSystem S z ⊎ ((Absent i S × IsNumber i (cut i S) [] z) ⊎ BeforePut i S z)
IsNumber (suc i) S (p ∷ ps) z =
    InSystem S z
    ⊎ ((Absent i S × IsNumber i (cut i S) (p ∷ ps) z)
    ⊎ (BeforePut i S z
    ⊎ (Occurs i S × (c : ℕ) × (D : ℕ) × (g : Affine) × Step i S p c D g × (OfAffine g z ⊎ IsNumber i (after i c g S) ps z))))

abbrev pub IsWide : ℤ → Type 0
IsWide z = FitsSigned w128 z → ⊥

-- each number with P fits 128 bits
abbrev pub AllFit : (ℤ → Type 0) → Type 0
AllFit P = (z : ℤ) → P z → FitsSigned w128 z

-- a number is outside 128 bits
abbrev pub Passes128 : ℕ → List Condition → List Put → Type 0
Passes128 n S ps = (z : ℤ) × IsNumber n S ps z × IsWide z

-- ---- the solution

-- the puts take all variables, the constraints then hold, and going back gives these values
abbrev pub IsSolution : ℕ → List Condition → List Put → List ℤ → Type 0
IsSolution zero S [] vs = (vs ≡ []) × Solves [] S
IsSolution zero S (p ∷ ps) vs = ⊥
IsSolution (suc i) S [] vs = Absent i S × (ws : List ℤ) × (vs ≡ ws ++ pos 0 ∷ []) × IsSolution i (cut i S) [] ws
IsSolution (suc i) S (p ∷ ps) vs =
    (Absent i S × (ws : List ℤ) × (vs ≡ ws ++ pos 0 ∷ []) × IsSolution i (cut i S) (p ∷ ps) ws)
    ⊎ (Occurs i S × (c : ℕ) × (D : ℕ) × (g : Affine) × Step i S p c D g × (ws : List ℤ) × (x : ℤ) × (vs ≡ ws ++ x ∷ []) × (affine_value g ws ≡ pos c *ℤ x) × IsSolution i (after i c g S) ps ws)
