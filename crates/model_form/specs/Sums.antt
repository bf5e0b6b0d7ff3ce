-- The form of an expression: like terms are merged, and terms with the coefficient 0 dropped. Fields stand by number,
-- then remainders in the order of first appearance.
use Rattle.std.specs.Prelude.{ℕ, ℤ, pos, negsuc, suc, ◌+ℤ◌, ◌*ℤ◌, Bool, true, false, ◌&&◌, ◌==◌, cond, List, [], ◌∷◌, slice_index_or, slice_set}
use Rattle.std.specs.Ordering.{int_eq}
use Rattle.model_form.specs.Form.{Form, form, Remainders, no_remainders, remainder, Term, modulo}
use Rattle.model_form.specs.Same.{same_form}

-- the form of a number, and that of a field
abbrev pub number_form : ℤ → Form
number_form c = form c [] no_remainders

abbrev pub field_form : ℕ → Form
field_form n = form (pos 0) (record { field = n; coefficient = pos 1 } ∷ []) no_remainders

-- terms as they are gathered: a coefficient for each field, and remainders that are merged
pub record Sum : Type 0 where
  pub constant : ℤ
  pub totals : List ℤ
  pub terms : Remainders

-- a number, and no terms
abbrev pub started : ℤ → Sum
started c = record { constant = c; totals = pos 0 ∷ pos 0 ∷ pos 0 ∷ pos 0 ∷ pos 0 ∷ pos 0 ∷ pos 0 ∷ pos 0 ∷ []; terms = no_remainders }

-- each coefficient times a number, at its field
abbrev pub add_fields : ℤ → List Term → List ℤ → List ℤ
add_fields by [] totals = totals
add_fields by (t ∷ ts) totals = add_fields by ts (slice_set totals t.field (slice_index_or totals t.field (pos 0) +ℤ (by *ℤ t.coefficient)))

-- like terms have equal forms and one divisor
abbrev pub is_like : Form → ℕ → Form → ℕ → Bool
is_like f k g m = (k == m) && same_form f g

-- c times the remainder of g by m more: at the term that is like it, else at the end
abbrev pub add_like : ℤ → Form → ℕ → Remainders → Remainders
add_like c g m no_remainders = remainder c g m no_remainders
add_like c g m (remainder a f k rs) = cond (is_like f k g m) (remainder (a +ℤ c) f k rs) (remainder a f k (add_like c g m rs))

abbrev pub add_remainders : ℤ → Remainders → Remainders → Remainders
add_remainders by no_remainders terms = terms
add_remainders by (remainder a f k rs) terms = add_remainders by rs (add_like (by *ℤ a) f k terms)

-- a form times a number more
abbrev pub add_form : ℤ → Form → Sum → Sum
add_form by (form c ts rs) s = record {
  constant = s.constant +ℤ (by *ℤ c);
  totals = add_fields by ts s.totals;
  terms = add_remainders by rs s.terms;
}

-- coefficients from the field n on, without the zeros
abbrev pub fields_from : ℕ → List ℤ → List Term
fields_from n [] = []
fields_from n (c ∷ cs) = cond (int_eq c (pos 0)) (fields_from (suc n) cs) (record { field = n; coefficient = c } ∷ fields_from (suc n) cs)

abbrev pub without_zeros : Remainders → Remainders
without_zeros no_remainders = no_remainders
without_zeros (remainder a f k rs) = cond (int_eq a (pos 0)) (without_zeros rs) (remainder a f k (without_zeros rs))

abbrev pub form_of_sum : Sum → Form
form_of_sum s = form s.constant (fields_from 0 s.totals) (without_zeros s.terms)

-- a part of a sum
pub record Part : Type 0 where
  pub minus : Bool
  pub added : Form

abbrev pub sign : Bool → ℤ
sign true = negsuc 0
sign false = pos 1

abbrev pub add_parts : List Part → Sum → Sum
add_parts [] s = s
add_parts (p ∷ ps) s = add_parts ps (add_form (sign p.minus) p.added s)

-- the form of a sum
abbrev pub sum_form : List Part → Form
sum_form parts = form_of_sum (add_parts parts (started (pos 0)))

-- the form of a product by a number: it acts on all coefficients and the constant
abbrev pub scaled_fields : ℤ → List Term → List Term
scaled_fields by [] = []
scaled_fields by (t ∷ ts) = record { field = t.field; coefficient = by *ℤ t.coefficient } ∷ scaled_fields by ts

abbrev pub scaled_remainders : ℤ → Remainders → Remainders
scaled_remainders by no_remainders = no_remainders
scaled_remainders by (remainder a f k rs) = remainder (by *ℤ a) f k (scaled_remainders by rs)

abbrev pub product_form : ℤ → Form → Form
product_form by (form c ts rs) = cond (int_eq by (pos 0)) (number_form (pos 0)) (form (by *ℤ c) (scaled_fields by ts) (scaled_remainders by rs))

-- the form of a remainder: of a constant it is a constant
abbrev pub remainder_form : Form → ℕ → Form
remainder_form (form c [] no_remainders) k = number_form (modulo c k)
remainder_form (form c (t ∷ ts) rs) k = form (pos 0) [] (remainder (pos 1) (form c (t ∷ ts) rs) k no_remainders)
remainder_form (form c [] (remainder a f m rs)) k = form (pos 0) [] (remainder (pos 1) (form c [] (remainder a f m rs)) k no_remainders)

-- a form for each field is put, and the form built anew from the inside out
abbrev pub put_fields : List Term → List Form → Sum → Sum
put_fields [] gs s = s
put_fields (t ∷ ts) gs s = put_fields ts gs (add_form t.coefficient (slice_index_or gs t.field (number_form (pos 0))) s)

abbrev mutual
  pub subst_form : Form → List Form → Form
  subst_form (form c ts rs) gs = form_of_sum (put_remainders rs gs (put_fields ts gs (started c)))

  pub put_remainders : Remainders → List Form → Sum → Sum
  put_remainders no_remainders gs s = s
  put_remainders (remainder a f k rs) gs s = put_remainders rs gs (add_form a (remainder_form (subst_form f gs) k) s)
