-- Forms made simpler, from the inside out. In a remainder by m, each term of a remainder whose divisor is a multiple of m
-- gives way to its coefficient times its inner form; then like terms are added, the constant and the coefficients give
-- way to their remainders by m, and terms with the coefficient 0 are dropped.
use Rattle.std.specs.Prelude.{ℕ, ℤ, pos, ◌+ℤ◌, ◌*ℤ◌, ◌%◌, ◌==◌, cond, List, map}
use Rattle.model_form.specs.Form.{Form, form, Remainders, no_remainders, remainder, Term, modulo}
use Rattle.model_form.specs.Sums.{Sum, started, add_fields, add_like, add_form, form_of_sum, remainder_form}

-- the constant and terms of fields more, each times a number
abbrev pub add_outer : ℤ → ℤ → List Term → Sum → Sum
add_outer by c ts s = record { constant = s.constant +ℤ (by *ℤ c); totals = add_fields by ts s.totals; terms = s.terms }

-- c times the remainder of f by k more
abbrev pub add_term : ℤ → Form → ℕ → Sum → Sum
add_term c f k s = record { constant = s.constant; totals = s.totals; terms = add_like c f k s.terms }

abbrev mutual
  -- a form times a number more, where remainders by multiples of m give way
  pub add_open : ℕ → ℤ → Form → Sum → Sum
  add_open m by (form c ts rs) s = add_all_open m by rs (add_outer by c ts s)

  pub add_all_open : ℕ → ℤ → Remainders → Sum → Sum
  add_all_open m by no_remainders s = s
  add_all_open m by (remainder a f k rs) s = add_all_open m by rs (cond (k % m == 0) (add_open m (by *ℤ a) f s) (add_term (by *ℤ a) f k s))

-- one term more, which gives way where it is a remainder by a multiple of m
abbrev pub add_term_open : ℕ → ℤ → Form → ℕ → Sum → Sum
add_term_open m c f k s = cond (k % m == 0) (add_open m c f s) (add_term c f k s)

-- the remainders by m of the constant and the coefficients
abbrev pub reduced_totals : ℕ → List ℤ → List ℤ
reduced_totals m cs = map (λ c. modulo c m) cs

abbrev pub reduced_terms : ℕ → Remainders → Remainders
reduced_terms m no_remainders = no_remainders
reduced_terms m (remainder a f k rs) = remainder (modulo a m) f k (reduced_terms m rs)

abbrev pub reduced : ℕ → Sum → Sum
reduced m s = record { constant = modulo s.constant m; totals = reduced_totals m s.totals; terms = reduced_terms m s.terms }

-- a sum without its remainders
abbrev pub outer : Sum → Sum
outer s = record { constant = s.constant; totals = s.totals; terms = no_remainders }

-- a sum as it stands in a remainder by m
abbrev pub inside : ℕ → Sum → Sum
inside m s = reduced m (add_all_open m (pos 1) s.terms (outer s))

abbrev mutual
  -- the terms outside all remainders, whose inner forms are simpler
  pub simpler_sum : Form → Sum
  simpler_sum (form c ts rs) = add_simpler rs (add_outer (pos 1) (pos 0) ts (started c))

  pub add_simpler : Remainders → Sum → Sum
  add_simpler no_remainders s = s
  add_simpler (remainder a f k rs) s = add_simpler rs (add_form a (remainder_form (form_of_sum (inside k (simpler_sum f))) k) s)

abbrev pub simpler_form : Form → Form
simpler_form f = form_of_sum (simpler_sum f)
