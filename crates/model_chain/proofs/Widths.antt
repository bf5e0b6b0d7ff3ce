-- Each condition of a first system has a coefficient for each variable.
use Rattle.std.proofs.Common.{◌≡◌, ℕ, zero, suc, List, [], ◌∷◌, ◌++◌, length, Bool, true, false, cond, ◌∙◌}
use Rattle.std.proofs.Math.IntN.{ℤ, pos, negsuc, ◌-ℤ◌, neg_ℤ}
use Rattle.math_cooper.specs.Line.{AtLeastZero, DividedBy}
use Rattle.std.specs.List.{All}
use Rattle.std.proofs.lemmas.List.Elements.{All-nil, All-cons, All-append}
use Rattle.math_cooper.specs.System.{Condition, HasWidth}
use Rattle.model_form.specs.Form.{Form, constant_of}
use Rattle.model_chain.specs.Literals.{Relation, less, at_most, equal, Literal, Remainder, width, over, zeros, add_at, add_terms, own_side, later_sides, conditions_of, literal_conditions, literals_conditions, remainder_conditions, remainders_conditions, bound_conditions, bounds_conditions, field_in, remainders_in}
use Rattle.model_chain.specs.Chains.{least, greatest, first_system, count_variables}
use Rattle.model_chain.proofs.Rows.{length-terms, length-zeros, length-add_at}

module _ (R : List Remainder) where
  abbrev pub AreWide : List Condition → Type 0
  AreWide S = All (HasWidth (width R)) S

  over_wide : (f g : Form) (d : ℤ) → HasWidth (width R) (over R f g d)
  over_wide f g d = length-terms R (negsuc 0) g (add_terms R (pos 1) f (zeros R)) ∙ length-terms R (pos 1) f (zeros R) ∙ length-zeros R

  only_over : (f g : Form) (d : ℤ) → AreWide (over R f g d ∷ [])
  only_over f g d = All-cons (HasWidth (width R)) (over R f g d) [] (over_wide f g d) (All-nil (HasWidth (width R)))

  literal_wide : (r : Relation) (positive side : Bool) (a b : Form) → AreWide (literal_conditions R r positive side a b)
  literal_wide less true side a b = only_over b a (negsuc 0)
  literal_wide at_most true side a b = only_over b a (pos 0)
  literal_wide equal true side a b = All-cons (HasWidth (width R)) (over R a b (pos 0)) (over R b a (pos 0) ∷ []) (over_wide a b (pos 0)) (only_over b a (pos 0))
  literal_wide less false side a b = only_over a b (pos 0)
  literal_wide at_most false side a b = only_over a b (negsuc 0)
  literal_wide equal false true a b = only_over a b (negsuc 0)
  literal_wide equal false false a b = only_over b a (negsuc 0)

  literals_wide : (ls : List Literal) (sides : List Bool) → AreWide (literals_conditions R ls sides)
  literals_wide [] sides = All-nil (HasWidth (width R))
  literals_wide (l ∷ ls) sides = All-append (HasWidth (width R)) (conditions_of R l (own_side l sides)) (literals_conditions R ls (later_sides l sides))
      (literal_wide l.compare.relation l.positive (own_side l sides) l.compare.left l.compare.right) (literals_wide ls (later_sides l sides))

  -- lists of conditions are as long as the lists of their rows
  rows_wide : (c : Condition) (S : List Condition) → HasWidth (width R) c → AreWide S → AreWide (c ∷ S)
  rows_wide c S h w = All-cons (HasWidth (width R)) c S h w

  none_wide : AreWide []
  none_wide = All-nil (HasWidth (width R))

  at_wide : (n : ℕ) (a : ℤ) (row : List ℤ) → length row ≡ width R → length (add_at n a row) ≡ width R
  at_wide n a row e = length-add_at n a row ∙ e

  remainder_wide : (n : ℕ) (r : Remainder) → AreWide (remainder_conditions R n r)
  remainder_wide n r =
      let c1 : Condition = record { kind = AtLeastZero; constant = pos 0; coefficients = add_at n (pos 1) (zeros R) } in
      let c2 : Condition = record { kind = AtLeastZero; constant = pos r.divisor -ℤ pos 1; coefficients = add_at n (negsuc 0) (zeros R) } in
      let c3 : Condition = record { kind = DividedBy r.divisor; constant = constant_of r.inner; coefficients = add_at n (negsuc 0) (add_terms R (pos 1) r.inner (zeros R)) } in
      rows_wide c1 (c2 ∷ c3 ∷ []) (at_wide n (pos 1) (zeros R) (length-zeros R)) (rows_wide c2 (c3 ∷ []) (at_wide n (negsuc 0) (zeros R) (length-zeros R))
      (rows_wide c3 [] (at_wide n (negsuc 0) (add_terms R (pos 1) r.inner (zeros R)) (length-terms R (pos 1) r.inner (zeros R) ∙ length-zeros R)) none_wide))

  remainders_wide : (n : ℕ) (rs : List Remainder) → AreWide (remainders_conditions R n rs)
  remainders_wide n [] = none_wide
  remainders_wide n (r ∷ rs) = All-append (HasWidth (width R)) (remainder_conditions R n r) (remainders_conditions R (suc n) rs) (remainder_wide n r) (remainders_wide (suc n) rs)

  bound_wide : (n : ℕ) (b : Bool) → AreWide (cond b (bound_conditions R least greatest n) [])
  bound_wide n true =
      let c1 : Condition = record { kind = AtLeastZero; constant = neg_ℤ least; coefficients = add_at n (pos 1) (zeros R) } in
      let c2 : Condition = record { kind = AtLeastZero; constant = greatest; coefficients = add_at n (negsuc 0) (zeros R) } in
      rows_wide c1 (c2 ∷ []) (at_wide n (pos 1) (zeros R) (length-zeros R)) (rows_wide c2 [] (at_wide n (negsuc 0) (zeros R) (length-zeros R)) none_wide)
  bound_wide n false = none_wide

  bounds_wide : (ls : List Literal) (n m : ℕ) → AreWide (bounds_conditions R least greatest ls n m)
  bounds_wide ls n zero = none_wide
  bounds_wide ls n (suc m) = All-append (HasWidth (width R)) (cond (field_in n ls) (bound_conditions R least greatest n) []) (bounds_conditions R least greatest ls (suc n) m) (bound_wide n (field_in n ls)) (bounds_wide ls (suc n) m)

pub first_wide : (ls : List Literal) (bounded : Bool) (sides : List Bool) → All (HasWidth (count_variables ls)) (first_system ls bounded sides)
first_wide ls bounded sides = let R = remainders_in ls in
    All-append (HasWidth (width R)) (literals_conditions R ls sides ++ remainders_conditions R 8 R) (cond bounded (bounds_conditions R least greatest ls 0 8) [])
    (All-append (HasWidth (width R)) (literals_conditions R ls sides) (remainders_conditions R 8 R) (literals_wide R ls sides) (remainders_wide R 8 R)) (by bounded)
  where
    by : (b : Bool) → All (HasWidth (count_variables ls)) (cond b (bounds_conditions (remainders_in ls) least greatest ls 0 8) [])
    by true = bounds_wide (remainders_in ls) ls 0 8
    by false = All-nil (HasWidth (count_variables ls))
