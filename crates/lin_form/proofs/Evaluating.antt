-- The steps of evaluating a form.
use Rattle.std.proofs.Common.{◌≡◌, ℕ, zero, suc, ◌+◌, ◌*◌, ◌^◌, ◌<◌, ◌≤◌, List, [], ◌∷◌, length, drop, get_or, refl, ap, sym, ◌∙◌, subst, arith, add-one, unsigned_abs, to_z, of_z}
use Rattle.std.proofs.Math.IntN.{ℤ, pos, ◌+ℤ◌, ◌*ℤ◌}
use Rattle.std.proofs.Math.Nat.{mul-le-mul}
use Rattle.std.specs.Prelude.{FitsSigned}
use Rattle.std.specs.Int.{w64, w128}
use Rattle.std.proofs.lemmas.Int.{ints, unsigned_abs-mul, fits_signed_from_abs, to_z-of_z}
use Rattle.model_tree.specs.Limits.{greatest_divisor}
use Rattle.model_form.specs.Form.{terms_value, remainders_value, value, modulo}
use Rattle.model_form.specs.Ranges.{AreFields, AreRemainders, IsCoefficient}
use Rattle.lin_form.specs.declared.form.FieldTerm.{FieldTerm}
use Rattle.lin_form.specs.declared.form.RemTerm.{RemTerm}
use Rattle.lin_form.specs.Terms.{plain_fields, plain_remainders}

pub fields_few : (n : ℕ) (ts : List FieldTerm) → n ≤ 8 → AreFields n (plain_fields ts) → n + length ts ≤ 8
fields_few n [] l h = omega arith
fields_few n (t ∷ ts) l h = let low = h.0 in let high = h.1 in let r = fields_few (suc t.field) ts (omega arith) h.4 in omega arith

pub coefficient_at : (n : ℕ) (ts : List FieldTerm) (k : ℕ) (d : FieldTerm) → AreFields n (plain_fields ts) → k < length ts → IsCoefficient (get_or ts k d).coefficient
coefficient_at n [] k d h l = absurd (omega arith)
coefficient_at n (t ∷ ts) zero d h l = h.3
coefficient_at n (t ∷ ts) (suc k) d h l = coefficient_at (suc t.field) ts k d h.4 (omega arith)

pub fields_step : (ts : List FieldTerm) (k : ℕ) (d : FieldTerm) (values : List ℤ) → k < length ts
    → terms_value (plain_fields (drop k ts)) values ≡ ((get_or ts k d).coefficient *ℤ get_or values (get_or ts k d).field (pos 0)) +ℤ terms_value (plain_fields (drop (k + 1) ts)) values
fields_step ts k d values h = rw (add-one k) (by ts k h)
  where
    by : (ts : List FieldTerm) (k : ℕ) → k < length ts → terms_value (plain_fields (drop k ts)) values ≡ ((get_or ts k d).coefficient *ℤ get_or values (get_or ts k d).field (pos 0)) +ℤ terms_value (plain_fields (drop (suc k) ts)) values
    by [] k h = absurd (omega arith)
    by (t ∷ ts) zero h = refl
    by (t ∷ ts) (suc k) h = by ts k (omega arith)

pub remainder_at : (ts : List RemTerm) (k : ℕ) (d : RemTerm) → AreRemainders (plain_remainders ts) → k < length ts
    → IsCoefficient (get_or ts k d).coefficient × (0 < (get_or ts k d).divisor) × ((get_or ts k d).divisor ≤ greatest_divisor)
remainder_at [] k d h l = absurd (omega arith)
remainder_at (t ∷ ts) zero d h l = (h.1, h.2, h.3)
remainder_at (t ∷ ts) (suc k) d h l = remainder_at ts k d h.4 (omega arith)

pub remainders_step : (ts : List RemTerm) (k : ℕ) (d : RemTerm) (values : List ℤ) → k < length ts
    → remainders_value (plain_remainders (drop k ts)) values ≡ ((get_or ts k d).coefficient *ℤ modulo (value (get_or ts k d).inner values) (get_or ts k d).divisor) +ℤ remainders_value (plain_remainders (drop (k + 1) ts)) values
remainders_step ts k d values h = rw (add-one k) (by ts k h)
  where
    by : (ts : List RemTerm) (k : ℕ) → k < length ts → remainders_value (plain_remainders (drop k ts)) values ≡ ((get_or ts k d).coefficient *ℤ modulo (value (get_or ts k d).inner values) (get_or ts k d).divisor) +ℤ remainders_value (plain_remainders (drop (suc k) ts)) values
    by [] k h = absurd (omega arith)
    by (t ∷ ts) zero h = refl
    by (t ∷ ts) (suc k) h = by ts k (omega arith)

-- a partial sum and the next product
pub small_sum : (m n : ℕ) (s p : ℤ) → unsigned_abs s ≤ m → unsigned_abs p ≤ n → unsigned_abs (s +ℤ p) ≤ m + n
small_sum m n s p h k = omega (arith, ints)

pub fits_128 : (z : ℤ) → unsigned_abs z < 2 ^ 127 → FitsSigned w128 z
fits_128 z h = fits_signed_from_abs w128 z h

pub fits_64 : (z : ℤ) → unsigned_abs z < 2 ^ 63 → FitsSigned w64 z
fits_64 z h = fits_signed_from_abs w64 z h

pub small_product : (a b : ℤ) (m n k : ℕ) → unsigned_abs a ≤ m → unsigned_abs b ≤ n → m * n ≤ k → unsigned_abs (a *ℤ b) ≤ k
small_product a b m n k h g l = let e = unsigned_abs-mul a b in let p = mul-le-mul h g in omega arith

-- a sum goes over to the next
pub carried : (s p r t whole : ℤ) → s +ℤ t ≡ whole → t ≡ p +ℤ r → (s +ℤ p) +ℤ r ≡ whole
carried s p r t whole e f = omega (arith, ints)

-- a sum of two that are small enough, as the code adds them
pub record IsSum (m : ℕ) (s p : ℤ) : Type 0 where
  pub fits : FitsSigned w128 (s +ℤ to_z w128 (of_z w128 p))
  pub is : to_z w128 (of_z w128 (s +ℤ to_z w128 (of_z w128 p))) ≡ s +ℤ p
  pub small : unsigned_abs (s +ℤ p) ≤ m

pub sum_is : (s p : ℤ) (m n k : ℕ) → unsigned_abs s ≤ m → unsigned_abs p ≤ n → m + n ≡ k → k < 2 ^ 127 → IsSum k s p
sum_is s p m n k h g e l =
    let t = small_sum m n s p h g in
    let back = to_z-of_z w128 p (fits_128 p (omega arith)) in
    let whole = fits_128 (s +ℤ p) (omega arith) in
    record {
      fits = subst (λ z. FitsSigned w128 (s +ℤ z)) (sym back) whole;
      is = ap (λ z. to_z w128 (of_z w128 (s +ℤ z))) back ∙ to_z-of_z w128 (s +ℤ p) whole;
      small = omega arith;
    }

-- a term that a loop is at
pub remainder_item : (ts items : List RemTerm) (k : ℕ) (t : RemTerm) → AreRemainders (plain_remainders ts) → items ≡ ts → t ≡ get_or items k t → k < length items → IsCoefficient t.coefficient × (0 < t.divisor) × (t.divisor ≤ greatest_divisor)
remainder_item ts items k t h e is l =
    subst (λ (x : RemTerm). IsCoefficient x.coefficient × (0 < x.divisor) × (x.divisor ≤ greatest_divisor)) (sym is) (remainder_at items k t (subst (λ us. AreRemainders (plain_remainders us)) (sym e) h) l)
