-- Forms over the first fields.
use Rattle.std.specs.Prelude.{ℕ, ◌<◌, List, [], ◌∷◌}
use Rattle.model_form.specs.Form.{Form, form, Remainders, no_remainders, remainder, Term}

abbrev pub AreBelow : ℕ → List Term → Type 0
AreBelow n [] = Unit {0}
AreBelow n (t ∷ ts) = (t.field < n) × AreBelow n ts

-- each field is one of the first n, in inner forms too
abbrev mutual
  pub IsOver : ℕ → Form → Type 0
  IsOver n (form c ts rs) = AreBelow n ts × AreOver n rs

  pub AreOver : ℕ → Remainders → Type 0
  AreOver n no_remainders = Unit {0}
  AreOver n (remainder a f k rs) = IsOver n f × AreOver n rs

-- each divisor is at least 1, in inner forms too
abbrev mutual
  pub IsDivided : Form → Type 0
  IsDivided (form c ts rs) = AreDivided rs

  pub AreDivided : Remainders → Type 0
  AreDivided no_remainders = Unit {0}
  AreDivided (remainder a f k rs) = (0 < k) × IsDivided f × AreDivided rs
