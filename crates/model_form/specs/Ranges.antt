-- The range of coefficients, and what is so of each form that a program has.
use Rattle.std.specs.Prelude.{◌≡◌, ◌≢◌, ℕ, suc, ℤ, pos, ◌<◌, ◌≤◌, ◌^◌, ◌⊎◌, unsigned_abs, false, List, [], ◌∷◌}
use Rattle.model_tree.specs.Limits.{most_fields, greatest_divisor}
use Rattle.model_tree.specs.Range.{IsLabelNumber}
use Rattle.model_form.specs.Form.{Form, form, Remainders, no_remainders, remainder, Term}
use Rattle.model_form.specs.Sums.{is_like, subst_form}

-- from -(2^31 - 1) to 2^31 - 1
abbrev pub IsCoefficient : ℤ → Type 0
IsCoefficient z = unsigned_abs z < 2 ^ 31

-- one of the fields' coefficients
abbrev pub IsOfFields : ℤ → List Term → Type 0
IsOfFields n [] = ⊥
IsOfFields n (t ∷ ts) = (n ≡ t.coefficient) ⊎ IsOfFields n ts

-- one of the remainders' coefficients
abbrev pub IsOfRemainders : ℤ → Remainders → Type 0
IsOfRemainders n no_remainders = ⊥
IsOfRemainders n (remainder a f k rs) = (n ≡ a) ⊎ IsOfRemainders n rs

-- the constant or a coefficient of the form, and outside its range
abbrev pub IsOutside : Form → ℤ → Type 0
IsOutside (form c ts rs) n = ((n ≡ c) × (IsLabelNumber n → ⊥)) ⊎ ((IsOfFields n ts ⊎ IsOfRemainders n rs) × (IsCoefficient n → ⊥))

-- outside in the form after putting forms for fields, or in that of an inner form, which is built first
abbrev mutual
  pub IsOutsideAfter : Form → List Form → ℤ → Type 0
  IsOutsideAfter (form c ts rs) gs n = IsOutside (subst_form (form c ts rs) gs) n ⊎ IsOutsideWithin rs gs n

  pub IsOutsideWithin : Remainders → List Form → ℤ → Type 0
  IsOutsideWithin no_remainders gs n = ⊥
  IsOutsideWithin (remainder a f k rs) gs n = IsOutsideAfter f gs n ⊎ IsOutsideWithin rs gs n

-- ---- what is so of each form that a program has

-- fields by number, from this one on to 7, each once, with coefficients in range that are not 0
abbrev pub AreFields : ℕ → List Term → Type 0
AreFields from [] = Unit {0}
AreFields from (t ∷ ts) = (from ≤ t.field) × (t.field < most_fields) × (t.coefficient ≢ pos 0) × IsCoefficient t.coefficient × AreFields (suc t.field) ts

-- no later term is like this one
abbrev pub IsApart : Form → ℕ → Remainders → Type 0
IsApart f k no_remainders = Unit {0}
IsApart f k (remainder b g m rs) = (is_like f k g m ≡ false) × IsApart f k rs

abbrev pub AreApart : Remainders → Type 0
AreApart no_remainders = Unit {0}
AreApart (remainder a f k rs) = IsApart f k rs × AreApart rs

-- coefficients in range that are not 0, and divisors from 1 to 4096
abbrev pub AreRemainders : Remainders → Type 0
AreRemainders no_remainders = Unit {0}
AreRemainders (remainder a f k rs) = (a ≢ pos 0) × IsCoefficient a × (0 < k) × (k ≤ greatest_divisor) × AreRemainders rs

-- the constant is in range, like terms are merged, and no coefficient is 0
abbrev pub IsForm : Form → Type 0
IsForm (form c ts rs) = IsLabelNumber c × AreFields 0 ts × AreRemainders rs × AreApart rs
