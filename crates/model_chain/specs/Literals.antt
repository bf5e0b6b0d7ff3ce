-- Comparisons of two forms, and the conditions on whole numbers that literals over them become.
use Rattle.std.specs.Prelude.{ℕ, zero, suc, ℤ, pos, negsuc, ◌+ℤ◌, ◌-ℤ◌, ◌*ℤ◌, neg_ℤ, ◌+◌, ◌≡◌, Bool, true, false, cond, ◌||◌, ◌==◌, List, [], ◌∷◌, ◌++◌, length, replicate, drop, slice_index_or, slice_set}
use Rattle.std.specs.List.{All}
use Rattle.std.specs.Ordering.{int_eq}
use Rattle.std.specs.Prelude.{int_lt}
use Rattle.model_tree.specs.Limits.{most_fields}
use Rattle.math_cooper.specs.Line.{AtLeastZero, DividedBy}
use Rattle.math_cooper.specs.System.{Condition}
use Rattle.model_form.specs.Form.{Form, form, Term, Remainders, no_remainders, remainder, constant_of, value}
use Rattle.model_form.specs.Sums.{add_fields, is_like}
use Rattle.model_form.specs.Over.{IsOver}

-- ---- comparisons and literals

pub data Relation : Type 0 where
  less : Relation
  at_most : Relation
  equal : Relation

pub record Compare : Type 0 where
  pub left : Form
  pub relation : Relation
  pub right : Form

-- whether two numbers are related
abbrev pub related : Relation → ℤ → ℤ → Bool
related less x y = int_lt x y
related at_most x y = cond (int_lt y x) false true
related equal x y = int_eq x y

-- whether the comparison holds at these values of the fields
abbrev pub compare_holds : Compare → List ℤ → Bool
compare_holds c values = related c.relation (value c.left values) (value c.right values)

pub record Literal : Type 0 where
  pub compare : Compare
  pub positive : Bool

abbrev pub HoldsAll : List Literal → List ℤ → Type 0
HoldsAll ls values = All (λ l. compare_holds l.compare values ≡ l.positive) ls

-- both sides of each literal are over the first n fields
abbrev pub AreLiteralsOver : ℕ → List Literal → Type 0
AreLiteralsOver n [] = Unit {0}
AreLiteralsOver n (l ∷ ls) = IsOver n l.compare.left × IsOver n l.compare.right × AreLiteralsOver n ls

-- ---- the new variables: variable 8 + k stands for the remainder at place k

pub record Remainder : Type 0 where
  pub inner : Form
  pub divisor : ℕ

abbrev pub is_same : Remainder → Remainder → Bool
is_same r s = is_like r.inner r.divisor s.inner s.divisor

abbrev pub is_in : Remainder → List Remainder → Bool
is_in r [] = false
is_in r (s ∷ R) = is_same r s || is_in r R

abbrev pub place : Remainder → List Remainder → ℕ
place r [] = 0
place r (s ∷ R) = cond (is_same r s) 0 (suc (place r R))

-- R, and r at the end where it lacks r
abbrev pub with_one : Remainder → List Remainder → List Remainder
with_one r R = cond (is_in r R) R (R ++ r ∷ [])

-- R and then the remainders of the form that it lacks, inner ones first
abbrev mutual
  pub seen : Form → List Remainder → List Remainder
  seen (form c ts rs) R = seen_all rs R

  pub seen_all : Remainders → List Remainder → List Remainder
  seen_all no_remainders R = R
  seen_all (remainder a f k rs) R = seen_all rs (with_one (record { inner = f; divisor = k }) (seen f R))

-- the remainders of the literals, in the order of first appearance
abbrev pub seen_in : List Literal → List Remainder → List Remainder
seen_in [] R = R
seen_in (l ∷ ls) R = seen_in ls (seen l.compare.right (seen l.compare.left R))

abbrev pub remainders_in : List Literal → List Remainder
remainders_in ls = seen_in ls []

-- ---- a form as a row of coefficients: those of the fields at 0 to 7, then those of the remainders

abbrev pub width : List Remainder → ℕ
width R = most_fields + length R

abbrev pub zeros : List Remainder → List ℤ
zeros R = replicate (width R) (pos 0)

-- a more at variable n
abbrev pub add_at : ℕ → ℤ → List ℤ → List ℤ
add_at n a row = slice_set row n (slice_index_or row n (pos 0) +ℤ a)

abbrev pub add_places : List Remainder → ℤ → Remainders → List ℤ → List ℤ
add_places R by no_remainders row = row
add_places R by (remainder a f k rs) row = add_places R by rs (add_at (most_fields + place (record { inner = f; divisor = k }) R) (by *ℤ a) row)

-- the coefficients of the form, each times a number, more
abbrev pub add_terms : List Remainder → ℤ → Form → List ℤ → List ℤ
add_terms R by (form c ts rs) row = add_places R by rs (add_fields by ts row)

-- ---- conditions

-- f - g + d >= 0
abbrev pub over : List Remainder → Form → Form → ℤ → Condition
over R f g d = record { kind = AtLeastZero; constant = (constant_of f -ℤ constant_of g) +ℤ d; coefficients = add_terms R (negsuc 0) g (add_terms R (pos 1) f (zeros R)) }

-- of a literal between a and b; a negated equality takes a side
abbrev pub literal_conditions : List Remainder → Relation → Bool → Bool → Form → Form → List Condition
literal_conditions R less true side a b = over R b a (negsuc 0) ∷ []
literal_conditions R at_most true side a b = over R b a (pos 0) ∷ []
literal_conditions R equal true side a b = over R a b (pos 0) ∷ over R b a (pos 0) ∷ []
literal_conditions R less false side a b = over R a b (pos 0) ∷ []
literal_conditions R at_most false side a b = over R a b (negsuc 0) ∷ []
literal_conditions R equal false true a b = over R a b (negsuc 0) ∷ []
literal_conditions R equal false false a b = over R b a (negsuc 0) ∷ []

abbrev pub is_not_equal : Relation → Bool → Bool
is_not_equal equal false = true
is_not_equal equal true = false
is_not_equal less positive = false
is_not_equal at_most positive = false

abbrev pub needs_side : Literal → Bool
needs_side l = is_not_equal l.compare.relation l.positive

-- how many literals are negated equalities
abbrev pub count_sides : List Literal → ℕ
count_sides [] = 0
count_sides (l ∷ ls) = cond (needs_side l) (suc (count_sides ls)) (count_sides ls)

-- a list of sides has one for each negated equality: that of this literal, and those of the further ones
abbrev pub own_side : Literal → List Bool → Bool
own_side l sides = cond (needs_side l) (slice_index_or sides 0 true) true

abbrev pub later_sides : Literal → List Bool → List Bool
later_sides l sides = cond (needs_side l) (drop 1 sides) sides

abbrev pub conditions_of : List Remainder → Literal → Bool → List Condition
conditions_of R l side = literal_conditions R l.compare.relation l.positive side l.compare.left l.compare.right

abbrev pub literals_conditions : List Remainder → List Literal → List Bool → List Condition
literals_conditions R [] sides = []
literals_conditions R (l ∷ ls) sides = conditions_of R l (own_side l sides) ++ literals_conditions R ls (later_sides l sides)

-- r >= 0, k - 1 - r >= 0, and k divides f - r, where r is variable n
abbrev pub remainder_conditions : List Remainder → ℕ → Remainder → List Condition
remainder_conditions R n r =
    record { kind = AtLeastZero; constant = pos 0; coefficients = add_at n (pos 1) (zeros R) }
    ∷ record { kind = AtLeastZero; constant = pos r.divisor -ℤ pos 1; coefficients = add_at n (negsuc 0) (zeros R) }
    ∷ record { kind = DividedBy r.divisor; constant = constant_of r.inner; coefficients = add_at n (negsuc 0) (add_terms R (pos 1) r.inner (zeros R)) }
    ∷ []

-- of the remainders rs, which are the variables from n on
abbrev pub remainders_conditions : List Remainder → ℕ → List Remainder → List Condition
remainders_conditions R n [] = []
remainders_conditions R n (r ∷ rs) = remainder_conditions R n r ++ remainders_conditions R (suc n) rs

-- ---- bounds of the fields

abbrev pub has_term : ℕ → List Term → Bool
has_term n [] = false
has_term n (t ∷ ts) = (t.field == n) || has_term n ts

abbrev mutual
  pub has_field : ℕ → Form → Bool
  has_field n (form c ts rs) = has_term n ts || has_inner n rs

  pub has_inner : ℕ → Remainders → Bool
  has_inner n no_remainders = false
  has_inner n (remainder a f k rs) = has_field n f || has_inner n rs

abbrev pub field_in : ℕ → List Literal → Bool
field_in n [] = false
field_in n (l ∷ ls) = (has_field n l.compare.left || has_field n l.compare.right) || field_in n ls

-- x - a >= 0 and b - x >= 0 for field n
abbrev pub bound_conditions : List Remainder → ℤ → ℤ → ℕ → List Condition
bound_conditions R a b n =
    record { kind = AtLeastZero; constant = neg_ℤ a; coefficients = add_at n (pos 1) (zeros R) }
    ∷ record { kind = AtLeastZero; constant = b; coefficients = add_at n (negsuc 0) (zeros R) }
    ∷ []

-- of each field in the literals, from the n-th of the fields on, of which m are left
abbrev pub bounds_conditions : List Remainder → ℤ → ℤ → List Literal → ℕ → ℕ → List Condition
bounds_conditions R a b ls n zero = []
bounds_conditions R a b ls n (suc m) = cond (field_in n ls) (bound_conditions R a b n) [] ++ bounds_conditions R a b ls (suc n) m
