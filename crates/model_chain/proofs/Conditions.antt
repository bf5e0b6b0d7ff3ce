-- The conditions of literals, remainders and bounds say what they stand for.
use Rattle.std.proofs.Common.{◌≡◌, ℕ, ◌<◌, List, [], ◌∷◌, ◌++◌, length, get_or, Bool, true, false, arith, ap, sym, ◌∙◌, subst}
use Rattle.std.proofs.Math.IntN.{ℤ, pos, negsuc, ◌+ℤ◌, ◌-ℤ◌, ◌*ℤ◌, neg_ℤ}
use Rattle.std.specs.Prelude.{◌≤ℤ◌, ◌<ℤ◌, FitsSigned}
use Rattle.std.specs.Int.{w64}
use Rattle.std.specs.List.{All}
use Rattle.std.proofs.lemmas.Int.{ints}
use Rattle.std.proofs.lemmas.List.Elements.{All-nil, All-cons, All-head, All-tail}
use Rattle.math_int.proofs.Floors.{euclid, euclid_range, floor_even, floor_once}
use Rattle.math_cooper.specs.Line.{AtLeastZero, DividedBy, Divides}
use Rattle.math_cooper.specs.System.{Condition, Holds, Solves, value, dot}
use Rattle.model_form.specs.Form.{Form, constant_of, modulo}
use Rattle.model_chain.specs.Literals.{Relation, less, at_most, equal, Remainder, over, literal_conditions, remainder_conditions, bound_conditions, width, zeros, add_at, add_terms}
use Rattle.model_chain.specs.Chains.{least, greatest}
use Rattle.model_chain.specs.Sides.{HoldsOn}
use Rattle.model_chain.proofs.Rows.{IsPlaced, linear_value, dot-terms, dot-add_at, dot-no_terms, length-terms, length-zeros}

-- ---- a list of two parts

pub all_front : {A : Type 0} (P : A → Type 0) (xs ys : List A) → All P (xs ++ ys) → All P xs
all_front P [] ys h = All-nil P
all_front P (x ∷ xs) ys h = All-cons P x xs (All-head P x (xs ++ ys) h) (all_front P xs ys (All-tail P x (xs ++ ys) h))

pub all_back : {A : Type 0} (P : A → Type 0) (xs ys : List A) → All P (xs ++ ys) → All P ys
all_back P [] ys h = h
all_back P (x ∷ xs) ys h = all_back P xs ys (All-tail P x (xs ++ ys) h)

only : {A : Type 0} (P : A → Type 0) (x : A) → P x → All P (x ∷ [])
only P x h = All-cons P x [] h (All-nil P)

-- ---- literals

module _ (R : List Remainder) (vs : List ℤ) where
  over_value : (f g : Form) (d : ℤ) → IsPlaced R (length R) f → IsPlaced R (length R) g → value (over R f g d) vs ≡ (linear_value R f vs -ℤ linear_value R g vs) +ℤ d
  over_value f g d p q =
      let row = add_terms R (pos 1) f (zeros R) in
      omega (
        arith,
        ints,
        dot-terms R (negsuc 0) g row vs q (length-terms R (pos 1) f (zeros R) ∙ length-zeros R),
        dot-terms R (pos 1) f (zeros R) vs p (length-zeros R),
        dot-no_terms R vs,
      )

  over_out : (f g : Form) (d : ℤ) → IsPlaced R (length R) f → IsPlaced R (length R) g → Holds vs (over R f g d) → pos 0 ≤ℤ ((linear_value R f vs -ℤ linear_value R g vs) +ℤ d)
  over_out f g d p q h = subst (λ z. pos 0 ≤ℤ z) (over_value f g d p q) h

  over_in : (f g : Form) (d : ℤ) → IsPlaced R (length R) f → IsPlaced R (length R) g → pos 0 ≤ℤ ((linear_value R f vs -ℤ linear_value R g vs) +ℤ d) → Holds vs (over R f g d)
  over_in f g d p q h = subst (λ z. pos 0 ≤ℤ z) (sym (over_value f g d p q)) h

  first_of : (c : Condition) (cs : List Condition) → Solves vs (c ∷ cs) → Holds vs c
  first_of c cs h = All-head (Holds vs) c cs h

  rest_of : (c : Condition) (cs : List Condition) → Solves vs (c ∷ cs) → Solves vs cs
  rest_of c cs h = All-tail (Holds vs) c cs h

  -- the conditions of a literal say that it holds on the side
  pub literal_out : (r : Relation) (positive side : Bool) (a b : Form) → IsPlaced R (length R) a → IsPlaced R (length R) b → Solves vs (literal_conditions R r positive side a b) → HoldsOn r positive side (linear_value R a vs) (linear_value R b vs)
  literal_out less true side a b p q h = let k = over_out b a (negsuc 0) q p (first_of (over R b a (negsuc 0)) [] h) in omega (arith, ints)
  literal_out at_most true side a b p q h = let k = over_out b a (pos 0) q p (first_of (over R b a (pos 0)) [] h) in omega (arith, ints)
  literal_out equal true side a b p q h =
      let k = over_out a b (pos 0) p q (first_of (over R a b (pos 0)) (over R b a (pos 0) ∷ []) h) in
      let m = over_out b a (pos 0) q p (first_of (over R b a (pos 0)) [] (rest_of (over R a b (pos 0)) (over R b a (pos 0) ∷ []) h)) in
      omega (arith, ints)
  literal_out less false side a b p q h = let k = over_out a b (pos 0) p q (first_of (over R a b (pos 0)) [] h) in omega (arith, ints)
  literal_out at_most false side a b p q h = let k = over_out a b (negsuc 0) p q (first_of (over R a b (negsuc 0)) [] h) in omega (arith, ints)
  literal_out equal false true a b p q h = let k = over_out a b (negsuc 0) p q (first_of (over R a b (negsuc 0)) [] h) in omega (arith, ints)
  literal_out equal false false a b p q h = let k = over_out b a (negsuc 0) q p (first_of (over R b a (negsuc 0)) [] h) in omega (arith, ints)

  pub literal_in : (r : Relation) (positive side : Bool) (a b : Form) → IsPlaced R (length R) a → IsPlaced R (length R) b → HoldsOn r positive side (linear_value R a vs) (linear_value R b vs) → Solves vs (literal_conditions R r positive side a b)
  literal_in less true side a b p q h = only (Holds vs) (over R b a (negsuc 0)) (over_in b a (negsuc 0) q p (omega (arith, ints)))
  literal_in at_most true side a b p q h = only (Holds vs) (over R b a (pos 0)) (over_in b a (pos 0) q p (omega (arith, ints)))
  literal_in equal true side a b p q h = All-cons (Holds vs) (over R a b (pos 0)) (over R b a (pos 0) ∷ []) (over_in a b (pos 0) p q (omega (arith, ints))) (only (Holds vs) (over R b a (pos 0)) (over_in b a (pos 0) q p (omega (arith, ints))))
  literal_in less false side a b p q h = only (Holds vs) (over R a b (pos 0)) (over_in a b (pos 0) p q (omega (arith, ints)))
  literal_in at_most false side a b p q h = only (Holds vs) (over R a b (negsuc 0)) (over_in a b (negsuc 0) p q (omega (arith, ints)))
  literal_in equal false true a b p q h = only (Holds vs) (over R a b (negsuc 0)) (over_in a b (negsuc 0) p q (omega (arith, ints)))
  literal_in equal false false a b p q h = only (Holds vs) (over R b a (negsuc 0)) (over_in b a (negsuc 0) q p (omega (arith, ints)))

  -- ---- one variable

  one_value : (n : ℕ) (a c : ℤ) → n < width R → dot (add_at n a (zeros R)) vs +ℤ c ≡ (a *ℤ get_or vs n (pos 0)) +ℤ c
  one_value n a c h = let z = length-zeros R in omega (arith, ints, dot-add_at n a (zeros R) vs (omega arith), dot-no_terms R vs)

  less_value : (n : ℕ) (f : Form) → n < width R → IsPlaced R (length R) f → dot (add_at n (negsuc 0) (add_terms R (pos 1) f (zeros R))) vs +ℤ constant_of f ≡ linear_value R f vs -ℤ get_or vs n (pos 0)
  less_value n f h p =
      let row = add_terms R (pos 1) f (zeros R) in
      let l = length-terms R (pos 1) f (zeros R) ∙ length-zeros R in
      omega (arith, ints, dot-add_at n (negsuc 0) row vs (omega arith), dot-terms R (pos 1) f (zeros R) vs p (length-zeros R), dot-no_terms R vs)

  -- ---- remainders

  -- the variable is a remainder of the inner form's linear value
  pub record IsRemainder (n : ℕ) (r : Remainder) : Type 0 where
    pub low : pos 0 ≤ℤ get_or vs n (pos 0)
    pub high : get_or vs n (pos 0) <ℤ pos r.divisor
    pub divides : Divides r.divisor (linear_value R r.inner vs -ℤ get_or vs n (pos 0))

  pub remainder_out : (n : ℕ) (r : Remainder) → n < width R → IsPlaced R (length R) r.inner → Solves vs (remainder_conditions R n r) → IsRemainder n r
  remainder_out n r h p s =
      let c1 : Condition = record { kind = AtLeastZero; constant = pos 0; coefficients = add_at n (pos 1) (zeros R) } in
      let c2 : Condition = record { kind = AtLeastZero; constant = pos r.divisor -ℤ pos 1; coefficients = add_at n (negsuc 0) (zeros R) } in
      let c3 : Condition = record { kind = DividedBy r.divisor; constant = constant_of r.inner; coefficients = add_at n (negsuc 0) (add_terms R (pos 1) r.inner (zeros R)) } in
      let a = subst (λ z. pos 0 ≤ℤ z) (one_value n (pos 1) (pos 0) h) (first_of c1 (c2 ∷ c3 ∷ []) s) in
      let t = rest_of c1 (c2 ∷ c3 ∷ []) s in
      let b = subst (λ z. pos 0 ≤ℤ z) (one_value n (negsuc 0) (pos r.divisor -ℤ pos 1) h) (first_of c2 (c3 ∷ []) t) in
      let u = rest_of c2 (c3 ∷ []) t in
      record {
        low = omega (arith, ints);
        high = omega (arith, ints);
        divides = subst (Divides r.divisor) (less_value n r.inner h p) (first_of c3 [] u);
      }

  pub remainder_in : (n : ℕ) (r : Remainder) → n < width R → IsPlaced R (length R) r.inner → IsRemainder n r → Solves vs (remainder_conditions R n r)
  remainder_in n r h p i =
      let c1 : Condition = record { kind = AtLeastZero; constant = pos 0; coefficients = add_at n (pos 1) (zeros R) } in
      let c2 : Condition = record { kind = AtLeastZero; constant = pos r.divisor -ℤ pos 1; coefficients = add_at n (negsuc 0) (zeros R) } in
      let c3 : Condition = record { kind = DividedBy r.divisor; constant = constant_of r.inner; coefficients = add_at n (negsuc 0) (add_terms R (pos 1) r.inner (zeros R)) } in
      let lo = i.low in
      let hi = i.high in
      All-cons (Holds vs) c1 (c2 ∷ c3 ∷ []) (subst (λ z. pos 0 ≤ℤ z) (sym (one_value n (pos 1) (pos 0) h)) (omega (arith, ints)))
      (All-cons (Holds vs) c2 (c3 ∷ []) (subst (λ z. pos 0 ≤ℤ z) (sym (one_value n (negsuc 0) (pos r.divisor -ℤ pos 1) h)) (omega (arith, ints)))
      (only (Holds vs) c3 (subst (Divides r.divisor) (sym (less_value n r.inner h p)) i.divides)))

  -- ---- bounds

  pub bound_out : (n : ℕ) → n < width R → Solves vs (bound_conditions R least greatest n) → FitsSigned w64 (get_or vs n (pos 0))
  bound_out n h s =
      let c1 : Condition = record { kind = AtLeastZero; constant = neg_ℤ least; coefficients = add_at n (pos 1) (zeros R) } in
      let c2 : Condition = record { kind = AtLeastZero; constant = greatest; coefficients = add_at n (negsuc 0) (zeros R) } in
      let a = subst (λ z. pos 0 ≤ℤ z) (one_value n (pos 1) (neg_ℤ least) h) (first_of c1 (c2 ∷ []) s) in
      let b = subst (λ z. pos 0 ≤ℤ z) (one_value n (negsuc 0) greatest h) (first_of c2 [] (rest_of c1 (c2 ∷ []) s)) in
      omega (arith, ints)

  pub bound_in : (n : ℕ) → n < width R → FitsSigned w64 (get_or vs n (pos 0)) → Solves vs (bound_conditions R least greatest n)
  bound_in n h f =
      let c1 : Condition = record { kind = AtLeastZero; constant = neg_ℤ least; coefficients = add_at n (pos 1) (zeros R) } in
      let c2 : Condition = record { kind = AtLeastZero; constant = greatest; coefficients = add_at n (negsuc 0) (zeros R) } in
      All-cons (Holds vs) c1 (c2 ∷ []) (subst (λ z. pos 0 ≤ℤ z) (sym (one_value n (pos 1) (neg_ℤ least) h)) (omega (arith, ints)))
      (only (Holds vs) c2 (subst (λ z. pos 0 ≤ℤ z) (sym (one_value n (negsuc 0) greatest h)) (omega (arith, ints))))

-- ---- a remainder is one number

pub modulo_range : (z : ℤ) (k : ℕ) → 0 < k → (pos 0 ≤ℤ modulo z k) × (modulo z k <ℤ pos k)
modulo_range z k p = euclid_range z (pos k) (omega (arith, ints))

pub modulo_divides : (z : ℤ) (k : ℕ) → 0 < k → Divides k (z -ℤ modulo z k)
modulo_divides z k p = let e = euclid z (pos k) (λ n. omega (arith, ints)) in over_quotient k z (modulo z k) _ e
  where
    over_quotient : (k : ℕ) (z r q : ℤ) → z ≡ (pos k *ℤ q) +ℤ r → Divides k (z -ℤ r)
    over_quotient k z r q e = record { times = q; is = omega (arith, ints) }

pub modulo_once : (z r : ℤ) (k : ℕ) → pos 0 ≤ℤ r → r <ℤ pos k → Divides k (z -ℤ r) → r ≡ modulo z k
modulo_once z r k low high d =
    let some : 0 < k = omega (arith, ints) in
    let e = modulo_divides z k some in
    let range = modulo_range z k some in
    same k z r (modulo z k) d.times e.times some (let q = d.is in omega (arith, ints)) (let q = e.is in omega (arith, ints)) (low, high) range
  where
    same : (k : ℕ) (z r s p q : ℤ) → 0 < k → z ≡ (pos k *ℤ p) +ℤ r → z ≡ (pos k *ℤ q) +ℤ s → (pos 0 ≤ℤ r) × (r <ℤ pos k) → (pos 0 ≤ℤ s) × (s <ℤ pos k) → r ≡ s
    same k z r s p q some e f a b =
        let one = floor_once z (pos k) p q (λ n. omega (arith, ints)) (floor_even z (pos k) p r e (λ _. a) (λ n. absurd (omega (arith, ints)))) (floor_even z (pos k) q s f (λ _. b) (λ n. absurd (omega (arith, ints)))) in
        let t = ap (λ x. pos k *ℤ x) one in
        omega (arith, ints)
