-- What is so of each form that a program has, at every depth: which fields and divisors, and how deep remainders nest.
use Rattle.std.specs.Prelude.{◌≡◌, ℕ, ◌≤◌, false, List}
use Rattle.model_tree.specs.Limits.{most_fields}
use Rattle.model_form.specs.Form.{Form, Remainders, no_remainders, remainder, remainders_of}
use Rattle.model_form.specs.Over.{IsOver, IsDivided}
use Rattle.model_form.specs.Ranges.{IsForm}
use Rattle.lin_form.specs.Nest.{is_bare, depth, depths, depth_over, AreDivisors}

-- how many remainders may stand in one another
abbrev pub deepest : ℕ
deepest = 2048

-- over the eight fields, by divisors that are at least 1, and not too many remainders stand in one another
pub record IsWhole (f : Form) : Type 0 where
  pub over : IsOver most_fields f
  pub divided : IsDivided f
  pub low : depth f ≤ deepest

-- what may stand in a remainder
abbrev pub IsInner : Form → Type 0
IsInner f = IsWhole f × (depth_over f ≤ deepest)

abbrev pub AreInner : Remainders → Type 0
AreInner no_remainders = Unit {0}
AreInner (remainder a f k rs) = IsInner f × AreInner rs

-- a form beside the number of its remainders that stand in one another
pub record IsSound (n : ℕ) (f : Form) : Type 0 where
  pub form : IsForm f
  pub inner : AreInner (remainders_of f)
  pub depth : n ≡ depths (remainders_of f)

-- a form and divisors of remainders that are taken of it: it is more than a remainder
pub record IsDividend (f : Form) (ks : List ℕ) : Type 0 where
  pub more : is_bare f ≡ false
  pub divisors : AreDivisors ks
