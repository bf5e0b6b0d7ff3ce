-- Linear forms over whole numbers: a constant, coefficients of fields, and coefficients of remainders of forms.
use Rattle.std.specs.Prelude.{ℕ, ℤ, pos, suc, ◌+ℤ◌, ◌*ℤ◌, max, List, [], ◌∷◌, slice_index_or}
use Rattle.std.specs.Int.{int_rem_euclid}

-- a coefficient of the field with this number
pub record Term : Type 0 where
  pub field : ℕ
  pub coefficient : ℤ

mutual
  -- a constant, terms of fields, terms of remainders
  pub data Form : Type 0 where
    form : ℤ → List Term → Remainders → Form

  -- a coefficient, the form whose remainder is taken, the divisor, and the further terms
  pub data Remainders : Type 0 where
    no_remainders : Remainders
    remainder : ℤ → Form → ℕ → Remainders → Remainders

abbrev pub constant_of : Form → ℤ
constant_of (form c ts rs) = c

abbrev pub fields_of : Form → List Term
fields_of (form c ts rs) = ts

abbrev pub remainders_of : Form → Remainders
remainders_of (form c ts rs) = rs

abbrev pub count : Remainders → ℕ
count no_remainders = 0
count (remainder a f k rs) = suc (count rs)

-- how deep remainders stand in one another
abbrev mutual
  pub height : Form → ℕ
  height (form c ts rs) = suc (heights rs)

  pub heights : Remainders → ℕ
  heights no_remainders = 0
  heights (remainder a f k rs) = max (height f) (heights rs)

-- the remainder of z by k, from 0 to k - 1
abbrev pub modulo : ℤ → ℕ → ℤ
modulo z k = int_rem_euclid z (pos k)

-- the values of the fields stand in a list, by the fields' numbers
abbrev pub terms_value : List Term → List ℤ → ℤ
terms_value [] values = pos 0
terms_value (t ∷ ts) values = (t.coefficient *ℤ slice_index_or values t.field (pos 0)) +ℤ terms_value ts values

abbrev mutual
  pub value : Form → List ℤ → ℤ
  value (form c ts rs) values = c +ℤ (terms_value ts values +ℤ remainders_value rs values)

  pub remainders_value : Remainders → List ℤ → ℤ
  remainders_value no_remainders values = pos 0
  remainders_value (remainder a f k rs) values = (a *ℤ modulo (value f values) k) +ℤ remainders_value rs values
