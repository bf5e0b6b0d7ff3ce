-- Remainders of nothing but a remainder, and how deep all others stand in one another.
use Rattle.std.specs.Prelude.{ℕ, zero, suc, pos, ◌+◌, ◌*◌, ◌<◌, ◌≤◌, max, Bool, false, ◌&&◌, cond, List, [], ◌∷◌, ◌++◌}
use Rattle.std.specs.Ordering.{int_eq}
use Rattle.std.specs.List.{All}
use Rattle.model_tree.specs.Limits.{greatest_divisor}
use Rattle.model_form.specs.Form.{Form, form, Remainders, no_remainders, remainder, height}

-- the remainder of the form by k, and nothing more
abbrev pub bare : Form → ℕ → Form
bare f k = form (pos 0) [] (remainder (pos 1) f k no_remainders)

-- remainders of the form in one another, the first divisor innermost
abbrev pub nest : Form → List ℕ → Form
nest f [] = f
nest f (k ∷ ks) = nest (bare f k) ks

-- the same by the first so many divisors
abbrev pub nest_front : ℕ → Form → List ℕ → Form
nest_front zero f ks = f
nest_front (suc i) f [] = f
nest_front (suc i) f (k ∷ ks) = nest_front i (bare f k) ks

-- whether the form is a remainder, and nothing more
abbrev pub is_bare : Form → Bool
is_bare (form c (t ∷ ts) rs) = false
is_bare (form c [] no_remainders) = false
is_bare (form c [] (remainder a f k no_remainders)) = int_eq c (pos 0) && int_eq a (pos 1)
is_bare (form c [] (remainder a f k (remainder b g m rs))) = false

-- what is under such remainders, and their divisors, the innermost first
abbrev pub base_of : Form → Form
base_of (form c (t ∷ ts) rs) = form c (t ∷ ts) rs
base_of (form c [] no_remainders) = form c [] no_remainders
base_of (form c [] (remainder a f k no_remainders)) = cond (int_eq c (pos 0) && int_eq a (pos 1)) (base_of f) (form c [] (remainder a f k no_remainders))
base_of (form c [] (remainder a f k (remainder b g m rs))) = form c [] (remainder a f k (remainder b g m rs))

abbrev pub divisors_of : Form → List ℕ
divisors_of (form c (t ∷ ts) rs) = []
divisors_of (form c [] no_remainders) = []
divisors_of (form c [] (remainder a f k no_remainders)) = cond (int_eq c (pos 0) && int_eq a (pos 1)) (divisors_of f ++ (k ∷ [])) []
divisors_of (form c [] (remainder a f k (remainder b g m rs))) = []

-- how many remainders stand in one another, where those of nothing but a remainder count as one with it
abbrev mutual
  pub depth : Form → ℕ
  depth (form c ts rs) = depths rs

  pub depths : Remainders → ℕ
  depths no_remainders = 0
  depths (remainder a f k rs) = max (cond (is_bare f) (depth f) (suc (depth f))) (depths rs)

-- the depth of a remainder of the form
abbrev pub depth_over : Form → ℕ
depth_over f = cond (is_bare f) (depth f) (suc (depth f))

-- divisors of a remainder
abbrev pub AreDivisors : List ℕ → Type 0
AreDivisors ks = All (λ k. (0 < k) × (k ≤ greatest_divisor)) ks

-- for recursion: a dividend is smaller than the form that it stands in, and greater than the form that it has
abbrev pub form_size : Form → ℕ
form_size f = 2 * height f

abbrev pub dividend_size : Form → ℕ
dividend_size f = 2 * height f + 1
