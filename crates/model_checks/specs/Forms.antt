-- The forms of label expressions, where they are defined: of whole numbers, with each product by a side without fields
-- and each remainder by a number from 1 to 4096, and with every number in its range.
use Rattle.std.specs.Prelude.{ℕ, ℤ, pos, negsuc, ◌^◌, Bool, true, false, ◌&&◌, ◌||◌, List, [], ◌∷◌, Option, Some, None, cond, is_some, nat_lt, nat_le, unsigned_abs, not}
use Rattle.std.specs.Option.{option_and_then, option_map}
use Rattle.model_tree.specs.Limits.{most_fields, greatest_divisor}
use Rattle.model_tree.specs.Range.{is_label_number}
use Rattle.model_tree.specs.Signature.{wholes}
use Rattle.model_grammar.specs.declared.Chain.TheVariants.{Disjunction, Conjunction, Sum, Product}
use Rattle.model_grammar.specs.Syntax.{Expr, field, number, text, truth, negation, compare, minus, chain, Parts, no_parts, part}
use Rattle.model_label.specs.Fields.{same_sort, number_at}
use Rattle.model_form.specs.Form.{Form, form, Term, Remainders, no_remainders, remainder, constant_of}
use Rattle.model_form.specs.Sums.{Part, number_form, field_form, sum_form, product_form, remainder_form}
use Rattle.model_checks.specs.Sorts.{Scope, find_field, field_sort, plain_fields}

-- ---- ranges

-- from -(2^31 - 1) to 2^31 - 1
abbrev pub is_coefficient : ℤ → Bool
is_coefficient z = nat_lt (unsigned_abs z) (2 ^ 31)

abbrev pub are_coefficients : List Term → Bool
are_coefficients [] = true
are_coefficients (t ∷ ts) = is_coefficient t.coefficient && are_coefficients ts

abbrev pub are_multiples : Remainders → Bool
are_multiples no_remainders = true
are_multiples (remainder a f k rs) = is_coefficient a && are_multiples rs

-- the constant and each coefficient are in range
abbrev pub is_in_range : Form → Bool
is_in_range (form c ts rs) = is_label_number c && (are_coefficients ts && are_multiples rs)

-- the form, where it is in range
abbrev pub kept : Option Form → Option Form
kept None = None
kept (Some f) = cond (is_in_range f) (Some f) None

-- whether there is a form, and it isn't in range
abbrev pub is_out_of_range : Option Form → Bool
is_out_of_range None = false
is_out_of_range (Some f) = not (is_in_range f)

-- ---- divisors

abbrev pub divisor_in : ℤ → Option ℕ
divisor_in (pos n) = cond (nat_lt 0 n && nat_le n greatest_divisor) (Some n) None
divisor_in (negsuc n) = None

-- a written number from 1 to 4096
abbrev pub divisor_of : Expr → Option ℕ
divisor_of (field place name) = None
divisor_of (number place n) = divisor_in n
divisor_of (text place t) = None
divisor_of (truth place b) = None
divisor_of (negation place e) = None
divisor_of (compare place rel a b) = None
divisor_of (minus place e) = None
divisor_of (chain kind place parts) = None

-- ---- fields

-- the form of one of the first eight whole numbers
abbrev pub form_numbered : ℕ → Option Form
form_numbered n = cond (nat_lt n most_fields) (Some (field_form n)) None

-- the form of a field that is a whole number, by its number among these
abbrev pub form_of_field : Scope → List ℕ → Option Form
form_of_field None name = None
form_of_field (Some fields) name = option_and_then (λ sort. cond (same_sort sort wholes) (form_numbered (number_at (plain_fields fields) wholes name)) None) (field_sort (Some fields) name)

-- whether it is the name of a field
abbrev pub is_field : Scope → List ℕ → Bool
is_field scope name = is_some (option_and_then (λ fields. find_field fields name) scope)

module _ (scope : Scope) where
  -- whether the expression has the name of a field in it
  abbrev mutual
    pub has_field : Expr → Bool
    has_field (field place name) = is_field scope name
    has_field (number place n) = false
    has_field (text place t) = false
    has_field (truth place b) = false
    has_field (negation place e) = has_field e
    has_field (compare place rel a b) = has_field a || has_field b
    has_field (minus place e) = has_field e
    has_field (chain kind place parts) = have_field parts

    pub have_field : Parts → Bool
    have_field no_parts = false
    have_field (part marked e parts) = has_field e || have_field parts

-- ---- forms

-- the product of two forms, of which one has no field
abbrev pub times : Bool → Form → Bool → Form → Option Form
times f_has f true g = cond f_has None (Some (product_form (constant_of f) g))
times f_has f false g = Some (product_form (constant_of g) f)

abbrev pub product_of : Bool → Option Form → Bool → Option Form → Option Form
product_of f_has None g_has g = None
product_of f_has (Some f) g_has None = None
product_of f_has (Some f) g_has (Some g) = times f_has f g_has g

-- the remainder of a form by a number
abbrev pub remainder_of : Option Form → Option ℕ → Option Form
remainder_of None k = None
remainder_of (Some f) None = None
remainder_of (Some f) (Some k) = Some (remainder_form f k)

-- one more part of a sum
abbrev pub with_part : Bool → Option Form → Option (List Part) → Option (List Part)
with_part subtracted None parts = None
with_part subtracted (Some f) None = None
with_part subtracted (Some f) (Some parts) = Some (record { minus = subtracted; added = f } ∷ parts)

module _ (scope : Scope) where
  -- Each form is made of forms that are in range. A product is taken from the left, from 1 on.
  abbrev mutual
    pub form_in_range : Expr → Option Form
    form_in_range (field place name) = form_of_field scope name
    form_in_range (number place n) = kept (Some (number_form n))
    form_in_range (text place t) = None
    form_in_range (truth place b) = None
    form_in_range (negation place e) = None
    form_in_range (compare place rel a b) = None
    form_in_range (minus place e) = kept (option_map (product_form (negsuc 0)) (form_in_range e))
    form_in_range (chain Disjunction place parts) = None
    form_in_range (chain Conjunction place parts) = None
    form_in_range (chain Sum place parts) = kept (option_map sum_form (added parts))
    form_in_range (chain Product place parts) = form_behind false (Some (number_form (pos 1))) parts

    -- the parts of a sum
    pub added : Parts → Option (List Part)
    added no_parts = Some []
    added (part subtracted e parts) = with_part subtracted (form_in_range e) (added parts)

    -- a product, behind what stands before these parts
    pub form_behind : Bool → Option Form → Parts → Option Form
    form_behind has before no_parts = before
    form_behind has before (part true e parts) = form_behind (has || has_field scope e) (remainder_of before (divisor_of e)) parts
    form_behind has before (part false e parts) = form_behind (has || has_field scope e) (kept (product_of has before (has_field scope e) (form_in_range e))) parts
