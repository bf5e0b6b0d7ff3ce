-- A constraint on a list of variables, a system of constraints, and the two parts of Cooper's step. The step removes the last variable.
use Rattle.std.specs.Prelude.{ℕ, suc, zero, ℤ, pos, negsuc, ◌+ℤ◌, ◌-ℤ◌, neg_ℤ, ◌*ℤ◌, ◌≡◌, ◌*◌, ◌/◌, ◌<ℤ◌, ◌⊎◌, List, [], ◌∷◌, ◌++◌, map, length, replicate, slice_index_or, unsigned_abs, take}
use Rattle.std.specs.List.{All}
use Rattle.math_cooper.specs.Line.{IsMultiple, Kind, AtLeastZero, DividedBy, Meets, Line}

-- the sum of the products of coefficients and values
unfoldable pub dot : List ℤ → List ℤ → ℤ
dot [] vs = pos 0
dot (a ∷ f) [] = pos 0
dot (a ∷ f) (v ∷ vs) = (a *ℤ v) +ℤ dot f vs

pub record Condition : Type 0 where
  pub kind : Kind
  pub constant : ℤ
  pub coefficients : List ℤ

abbrev pub value : Condition → List ℤ → ℤ
value c vs = dot c.coefficients vs +ℤ c.constant

abbrev pub Holds : List ℤ → Condition → Type 0
Holds vs c = Meets c.kind (value c vs)

abbrev pub Solves : List ℤ → List Condition → Type 0
Solves vs S = All (Holds vs) S

-- each constraint has n coefficients
abbrev pub HasWidth : ℕ → Condition → Type 0
HasWidth n c = length c.coefficients ≡ n

abbrev pub IsSolvable : ℕ → List Condition → Type 0
IsSolvable n S = (vs : List ℤ) × (length vs ≡ n) × Solves vs S

-- the coefficient of variable i, the last
abbrev pub lead : ℕ → Condition → ℤ
lead i c = slice_index_or c.coefficients i (pos 0)

-- the constraint as one on variable i, at values of those before
unfoldable pub line : ℕ → List ℤ → Condition → Line
line i ws c = record { kind = c.kind; lead = lead i c; rest = dot (take i c.coefficients) ws +ℤ c.constant }

-- f + a times g
unfoldable pub add_times : ℤ → List ℤ → List ℤ → List ℤ
add_times a [] g = []
add_times a (x ∷ f) [] = x ∷ f
add_times a (x ∷ f) (y ∷ g) = (x +ℤ (a *ℤ y)) ∷ add_times a f g

-- a form: what is put for a variable
pub record Affine : Type 0 where
  pub constant : ℤ
  pub coefficients : List ℤ

abbrev pub affine_value : Affine → List ℤ → ℤ
affine_value g vs = dot g.coefficients vs +ℤ g.constant

-- the constraint with the form put for variable i
unfoldable pub put : ℕ → Affine → Condition → Condition
put i g c = record { kind = c.kind; constant = c.constant +ℤ (lead i c *ℤ g.constant); coefficients = add_times (lead i c) (take i c.coefficients) g.coefficients }

-- the bound of b on variable i from below, and j more; from above, and j less; and j alone
unfoldable pub low_form : ℕ → Condition → ℕ → Affine
low_form i b j = record { constant = neg_ℤ b.constant +ℤ pos j; coefficients = map neg_ℤ (take i b.coefficients) }

unfoldable pub high_form : ℕ → Condition → ℕ → Affine
high_form i b j = record { constant = b.constant -ℤ pos j; coefficients = take i b.coefficients }

unfoldable pub free_form : ℕ → ℕ → Affine
free_form i j = record { constant = pos j; coefficients = replicate i (pos 0) }

abbrev pub put_all : ℕ → Affine → List Condition → List Condition
put_all i g S = map (put i g) S

-- ---- a step's first part

-- k times a kind
abbrev pub kind_times : ℕ → Kind → Kind
kind_times k AtLeastZero = AtLeastZero
kind_times k (DividedBy m) = DividedBy (k * m)

-- 1 or -1 or 0
abbrev pub sign : ℤ → ℤ
sign (pos zero) = pos 0
sign (pos (suc n)) = pos 1
sign (negsuc n) = negsuc 0

-- the constraint times k, with x' for c times variable i
unfoldable pub times_condition : ℕ → ℕ → Condition → Condition
times_condition i k c = record { kind = kind_times k c.kind; constant = pos k *ℤ c.constant; coefficients = map (λ a. pos k *ℤ a) (take i c.coefficients) ++ sign (lead i c) ∷ [] }

-- the constraint with 1, -1 or 0 times x' for variable i, where x' is c times that variable
abbrev pub unit_by : ℕ → ℕ → ℕ → Condition → Condition
unit_by zero i c d = d
unit_by (suc a) i c d = times_condition i (c / suc a) d

abbrev pub unit : ℕ → ℕ → Condition → Condition
unit i c d = unit_by (unsigned_abs (lead i d)) i c d

-- c divides variable i
unfoldable pub divides_condition : ℕ → ℕ → Condition
divides_condition i c = record { kind = DividedBy c; constant = pos 0; coefficients = replicate i (pos 0) ++ pos 1 ∷ [] }

unfoldable pub unit_all : ℕ → ℕ → List Condition → List Condition
unit_all i c S = map (unit i c) S ++ (divides_condition i c ∷ [])

-- c is a multiple of each coefficient of variable i
abbrev pub IsCommonAt : ℕ → ℕ → Condition → Type 0
IsCommonAt i c d = (lead i d ≡ pos 0) ⊎ IsMultiple (unsigned_abs (lead i d)) c

-- ---- what a step's first part makes true

-- an inequality has variable i with 1, -1 or 0
abbrev pub IsUnitAt : ℕ → Condition → Type 0
IsUnitAt i c = c.kind ≡ AtLeastZero → (pos 0 <ℤ lead i c → lead i c ≡ pos 1) × (lead i c <ℤ pos 0 → lead i c ≡ negsuc 0)

-- D is a multiple of the divisor, where the constraint has variable i
abbrev pub RepeatsAt : ℕ → ℕ → Condition → Type 0
RepeatsAt i D c = (m : ℕ) → c.kind ≡ DividedBy m → (lead i c ≡ pos 0) ⊎ IsMultiple m D

-- the constraint bounds variable i from below, or from above
abbrev pub IsLowAt : ℕ → Condition → Type 0
IsLowAt i c = (c.kind ≡ AtLeastZero) × (lead i c ≡ pos 1)

abbrev pub IsHighAt : ℕ → Condition → Type 0
IsHighAt i c = (c.kind ≡ AtLeastZero) × (lead i c ≡ negsuc 0)
