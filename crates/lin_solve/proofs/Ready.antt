-- The first system is one that can be solved: where it has a divisor, the divisor is positive.
use Rattle.std.proofs.Common.{◌≡◌, ℕ, zero, suc, ◌<◌, List, [], ◌∷◌, ◌++◌, Bool, true, false, cond, ap, subst}
use Rattle.std.proofs.Math.IntN.{ℤ, pos, negsuc, ◌+ℤ◌, ◌-ℤ◌, neg_ℤ}
use Rattle.std.specs.List.{All}
use Rattle.std.proofs.lemmas.List.Elements.{All-nil, All-cons, All-append, All-head, All-tail}
use Rattle.math_cooper.specs.Line.{Kind, AtLeastZero, DividedBy}
use Rattle.math_cooper.specs.System.{Condition}
use Rattle.model_form.specs.Form.{Form, constant_of}
use Rattle.model_chain.specs.Literals.{Relation, less, at_most, equal, Literal, Remainder, over, zeros, add_at, add_terms, own_side, later_sides, conditions_of, literal_conditions, literals_conditions, remainder_conditions, remainders_conditions, bound_conditions, bounds_conditions, field_in, remainders_in}
use Rattle.model_chain.specs.Chains.{least, greatest, first_system, count_variables}
use Rattle.model_chain.specs.Laws.{AreDivisorsPositive}
use Rattle.model_chain.proofs.Widths.{first_wide}
use Rattle.cooper_solve.specs.Views.{IsPositive, IsSystem}

no_divisor : (m : ℕ) → AtLeastZero ≡ DividedBy m → ⊥
no_divisor m e = subst (λ (k : Kind). is_least k) e tt
  where
    is_least : Kind → Type 0
    is_least AtLeastZero = Unit {0}
    is_least (DividedBy n) = ⊥

module _ (R : List Remainder) where
  abbrev AreGood : List Condition → Type 0
  AreGood S = All IsPositive S

  least_good : (k : ℤ) (row : List ℤ) (S : List Condition) → AreGood S → AreGood (record { kind = AtLeastZero; constant = k; coefficients = row } ∷ S)
  least_good k row S h = All-cons IsPositive (record { kind = AtLeastZero; constant = k; coefficients = row }) S (λ m e. absurd (no_divisor m e)) h

  none_good : AreGood []
  none_good = All-nil IsPositive

  over_good : (f g : Form) (d : ℤ) (S : List Condition) → AreGood S → AreGood (over R f g d ∷ S)
  over_good f g d S h = least_good ((constant_of f -ℤ constant_of g) +ℤ d) (add_terms R (negsuc 0) g (add_terms R (pos 1) f (zeros R))) S h

  literal_good : (r : Relation) (positive side : Bool) (a b : Form) → AreGood (literal_conditions R r positive side a b)
  literal_good less true side a b = over_good b a (negsuc 0) [] none_good
  literal_good at_most true side a b = over_good b a (pos 0) [] none_good
  literal_good equal true side a b = over_good a b (pos 0) (over R b a (pos 0) ∷ []) (over_good b a (pos 0) [] none_good)
  literal_good less false side a b = over_good a b (pos 0) [] none_good
  literal_good at_most false side a b = over_good a b (negsuc 0) [] none_good
  literal_good equal false true a b = over_good a b (negsuc 0) [] none_good
  literal_good equal false false a b = over_good b a (negsuc 0) [] none_good

  literals_good : (ls : List Literal) (sides : List Bool) → AreGood (literals_conditions R ls sides)
  literals_good [] sides = none_good
  literals_good (l ∷ ls) sides = All-append IsPositive (conditions_of R l (own_side l sides)) (literals_conditions R ls (later_sides l sides))
      (literal_good l.compare.relation l.positive (own_side l sides) l.compare.left l.compare.right) (literals_good ls (later_sides l sides))

  remainder_good : (n : ℕ) (r : Remainder) → 0 < r.divisor → AreGood (remainder_conditions R n r)
  remainder_good n r p =
      let c3 : Condition = record { kind = DividedBy r.divisor; constant = constant_of r.inner; coefficients = add_at n (negsuc 0) (add_terms R (pos 1) r.inner (zeros R)) } in
      let c2 : Condition = record { kind = AtLeastZero; constant = pos r.divisor -ℤ pos 1; coefficients = add_at n (negsuc 0) (zeros R) } in
      least_good (pos 0) (add_at n (pos 1) (zeros R)) (c2 ∷ c3 ∷ []) (least_good (pos r.divisor -ℤ pos 1) (add_at n (negsuc 0) (zeros R)) (c3 ∷ [])
      (All-cons IsPositive c3 [] (λ m e. subst (λ k. 0 < k) (same_divisor r.divisor m e) p) none_good))
    where
      divisor_in : Kind → ℕ
      divisor_in AtLeastZero = 0
      divisor_in (DividedBy n) = n

      same_divisor : (j m : ℕ) → DividedBy j ≡ DividedBy m → j ≡ m
      same_divisor j m e = ap divisor_in e

  remainders_good : (n : ℕ) (rs : List Remainder) → All (λ r. 0 < r.divisor) rs → AreGood (remainders_conditions R n rs)
  remainders_good n [] h = none_good
  remainders_good n (r ∷ rs) h = All-append IsPositive (remainder_conditions R n r) (remainders_conditions R (suc n) rs)
      (remainder_good n r (All-head (λ (r : Remainder). 0 < r.divisor) r rs h)) (remainders_good (suc n) rs (All-tail (λ (r : Remainder). 0 < r.divisor) r rs h))

  bound_good : (n : ℕ) (b : Bool) → AreGood (cond b (bound_conditions R least greatest n) [])
  bound_good n true =
      let c2 : Condition = record { kind = AtLeastZero; constant = greatest; coefficients = add_at n (negsuc 0) (zeros R) } in
      least_good (neg_ℤ least) (add_at n (pos 1) (zeros R)) (c2 ∷ []) (least_good greatest (add_at n (negsuc 0) (zeros R)) [] none_good)
  bound_good n false = none_good

  bounds_good : (ls : List Literal) (n m : ℕ) → AreGood (bounds_conditions R least greatest ls n m)
  bounds_good ls n zero = none_good
  bounds_good ls n (suc m) = All-append IsPositive (cond (field_in n ls) (bound_conditions R least greatest n) []) (bounds_conditions R least greatest ls (suc n) m) (bound_good n (field_in n ls)) (bounds_good ls (suc n) m)

pub first_ready : (ls : List Literal) (bounded : Bool) (sides : List Bool) → AreDivisorsPositive ls → IsSystem (count_variables ls) (first_system ls bounded sides)
first_ready ls bounded sides some = let R = remainders_in ls in (
  first_wide ls bounded sides,
  All-append IsPositive (literals_conditions R ls sides ++ remainders_conditions R 8 R) (cond bounded (bounds_conditions R least greatest ls 0 8) [])
      (All-append IsPositive (literals_conditions R ls sides) (remainders_conditions R 8 R) (literals_good R ls sides) (remainders_good R 8 R some)) (by bounded),
)
  where
    by : (b : Bool) → All IsPositive (cond b (bounds_conditions (remainders_in ls) least greatest ls 0 8) [])
    by true = bounds_good (remainders_in ls) ls 0 8
    by false = All-nil IsPositive
