-- The linear form of a whole number, and which expressions are whole numbers. Whole numbers are numbered from 0 in the order of the type.
use Rattle.std.specs.Prelude.{ℕ, ℤ, pos, negsuc, ◌&&◌, ◌||◌, Bool, true, false, cond, List, [], ◌∷◌, ◌++◌, Contains, nat_lt, nat_le}
use Rattle.model_tree.specs.Limits.{greatest_divisor}
use Rattle.model_tree.specs.Label.{Field, whole}
use Rattle.model_tree.specs.Label as label
use Rattle.model_tree.specs.Signature.{wholes, PlainField}
use Rattle.model_grammar.specs.declared.Chain.TheVariants.{Disjunction, Conjunction, Sum, Product}
use Rattle.model_grammar.specs.Syntax.{Expr, field, number, text, truth, negation, compare, minus, chain, Parts, no_parts, part}
use Rattle.model_label.specs.Fields.{has_field, number_at}
use Rattle.model_form.specs.Form.{Form, form, no_remainders, remainder, constant_of}
use Rattle.model_form.specs.Sums.{Part, number_form, field_form, sum_form, product_form, remainder_form}
use Rattle.model_form.specs.Ranges.{IsOutside}

-- the whole numbers among the fields, in their order
abbrev pub wholes_in : List Field → List ℤ
wholes_in [] = []
wholes_in (whole n ∷ fields) = n ∷ wholes_in fields
wholes_in (label.truth b ∷ fields) = wholes_in fields
wholes_in (label.text t ∷ fields) = wholes_in fields

-- a constant alone
abbrev pub is_constant : Form → Bool
is_constant (form c [] no_remainders) = true
is_constant (form c [] (remainder a f k rs)) = false
is_constant (form c (t ∷ ts) rs) = false

-- the form of a product of two, of which one is a constant
abbrev pub times : Form → Form → Form
times f g = cond (is_constant g) (product_form (constant_of g) f) (product_form (constant_of f) g)

-- a written number from 1 to 4096
abbrev pub is_divisor : Expr → Bool
is_divisor (field place name) = false
is_divisor (number place (pos n)) = nat_lt 0 n && nat_le n greatest_divisor
is_divisor (number place (negsuc n)) = false
is_divisor (text place t) = false
is_divisor (truth place b) = false
is_divisor (negation place e) = false
is_divisor (compare place rel a b) = false
is_divisor (minus place e) = false
is_divisor (chain kind place parts) = false

abbrev pub number_of : Expr → ℕ
number_of (field place name) = 1
number_of (number place (pos n)) = n
number_of (number place (negsuc n)) = 1
number_of (text place t) = 1
number_of (truth place b) = 1
number_of (negation place e) = 1
number_of (compare place rel a b) = 1
number_of (minus place e) = 1
number_of (chain kind place parts) = 1

-- the divisor that is written; what is none counts as 1
abbrev pub divisor_of : Expr → ℕ
divisor_of e = cond (is_divisor e) (number_of e) 1

-- a form by one more part, whose own form is f; a marked part is a divisor whose remainder is taken
abbrev pub step : Form → Bool → Expr → Form → Form
step before divides e f = cond divides (remainder_form before (divisor_of e)) (times before f)

module _ (fields : List PlainField) where
  abbrev mutual
    -- the form of a whole number; what is none counts as 0
    pub form_of : Expr → Form
    form_of (field place name) = cond (has_field fields wholes name) (field_form (number_at fields wholes name)) (number_form (pos 0))
    form_of (number place n) = number_form n
    form_of (text place t) = number_form (pos 0)
    form_of (truth place b) = number_form (pos 0)
    form_of (negation place e) = number_form (pos 0)
    form_of (compare place rel a b) = number_form (pos 0)
    form_of (minus place e) = product_form (negsuc 0) (form_of e)
    form_of (chain Disjunction place parts) = number_form (pos 0)
    form_of (chain Conjunction place parts) = number_form (pos 0)
    form_of (chain Sum place parts) = sum_form (added parts)
    form_of (chain Product place parts) = multiplied (number_form (pos 1)) parts

    -- a marked part is subtracted
    pub added : Parts → List Part
    added no_parts = []
    added (part subtracted e parts) = record { minus = subtracted; added = form_of e } ∷ added parts

    -- from the left
    pub multiplied : Form → Parts → Form
    multiplied before no_parts = before
    multiplied before (part divides e parts) = multiplied (step before divides e (form_of e)) parts

  -- the forms of the steps of a product
  abbrev pub steps : Form → Parts → List Form
  steps before no_parts = []
  steps before (part divides e parts) = step before divides e (form_of e) ∷ steps (step before divides e (form_of e)) parts

  abbrev mutual
    -- the forms of an expression: of each number, sum and `-` in it, and of each step of a product
    pub forms_in : Expr → List Form
    forms_in (field place name) = []
    forms_in (number place n) = number_form n ∷ []
    forms_in (text place t) = []
    forms_in (truth place b) = []
    forms_in (negation place e) = forms_in e
    forms_in (compare place rel a b) = forms_in a ++ forms_in b
    forms_in (minus place e) = forms_in e ++ form_of (minus place e) ∷ []
    forms_in (chain Disjunction place parts) = forms_in_all parts
    forms_in (chain Conjunction place parts) = forms_in_all parts
    forms_in (chain Sum place parts) = forms_in_all parts ++ form_of (chain Sum place parts) ∷ []
    forms_in (chain Product place parts) = forms_in_all parts ++ steps (number_form (pos 1)) parts

    pub forms_in_all : Parts → List Form
    forms_in_all no_parts = []
    forms_in_all (part marked e parts) = forms_in e ++ forms_in_all parts

  abbrev mutual
    -- a whole number: a field, a constant, or what `-`, `+`, `*` and `%` make of whole numbers
    pub is_whole : Expr → Bool
    is_whole (field place name) = has_field fields wholes name
    is_whole (number place n) = true
    is_whole (text place t) = false
    is_whole (truth place b) = false
    is_whole (negation place e) = false
    is_whole (compare place rel a b) = false
    is_whole (minus place e) = is_whole e
    is_whole (chain Disjunction place parts) = false
    is_whole (chain Conjunction place parts) = false
    is_whole (chain Sum place parts) = are_wholes parts
    is_whole (chain Product place parts) = are_factors (number_form (pos 1)) parts

    pub are_wholes : Parts → Bool
    are_wholes no_parts = true
    are_wholes (part subtracted e parts) = is_whole e && are_wholes parts

    -- each part is a written divisor, or a whole number by which one may multiply: the form of one of the two sides is a constant
    pub are_factors : Form → Parts → Bool
    are_factors before no_parts = true
    are_factors before (part divides e parts) = cond divides (is_divisor e) (is_whole e && (is_constant before || is_constant (form_of e))) && are_factors (step before divides e (form_of e)) parts

module _ (fields : List PlainField) where
  abbrev mutual
    -- whether an expression has a field in it that is a whole number
    pub has_whole : Expr → Bool
    has_whole (field place name) = has_field fields wholes name
    has_whole (number place n) = false
    has_whole (text place t) = false
    has_whole (truth place b) = false
    has_whole (negation place e) = has_whole e
    has_whole (compare place rel a b) = has_whole a || has_whole b
    has_whole (minus place e) = has_whole e
    has_whole (chain kind place parts) = have_whole parts

    pub have_whole : Parts → Bool
    have_whole no_parts = false
    have_whole (part marked e parts) = has_whole e || have_whole parts

-- one of the forms has the number, and outside its range
abbrev pub HasOutside : List Form → ℤ → Type 0
HasOutside forms n = (f : Form) × Contains forms f × IsOutside f n
