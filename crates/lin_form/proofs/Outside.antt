-- A form of a program has no number outside.
use Rattle.std.proofs.Common.{suc, ◌≡◌, ℕ, ◌≤◌, ◌<◌, ◌^◌, inl, inr, List, [], ◌∷◌, refl, ap, sym, ◌∙◌, subst, arith, unsigned_abs, to_z, of_z, lit≤, Bool, true, false, cond}
use Rattle.std.proofs.Math.IntN.{ℤ, pos, ◌*ℤ◌, ◌+ℤ◌}
use Rattle.std.specs.Prelude.{FitsSigned}
use Rattle.std.specs.Int.{w128}
use Rattle.std.specs.Ordering.{int_eq}
use Rattle.std.proofs.lemmas.Int.{ints, to_z-of_z}
use Rattle.std.proofs.Common.{zero, ◌+◌, ◌*◌, length, drop, get_or, add-one}
use Rattle.lin_form.specs.declared.form.FieldTerm.{FieldTerm}
use Rattle.lin_form.specs.declared.form.RemTerm.{RemTerm}
use Rattle.lin_form.specs.declared.sum.Signed.{Signed}
use Rattle.lin_form.specs.Terms.{plain_fields, plain_remainders}
use Rattle.lin_form.specs.Gathered.{plain_parts}
use Rattle.model_form.specs.Form.{constant_of, Form, form, Remainders, no_remainders, remainder, Term}
use Rattle.model_form.specs.Sums.{Sum, add_form, sign, remainder_form, product_form, number_form, scaled_fields, scaled_remainders}
use Rattle.model_tree.specs.Range.{IsLabelNumber}
use Rattle.model_form.specs.Ranges.{IsCoefficient, IsOfFields, IsOfRemainders, IsOutside, IsForm, AreFields, AreRemainders}
use Rattle.model_form.proofs.Values.{int_eq-out}
use Rattle.lin_form.proofs.Evaluating.{small_product, small_sum, fits_128}

pub fields_range : (m : ℕ) (ts : List Term) → AreFields m ts → (n : ℤ) → IsOfFields n ts → IsCoefficient n
fields_range m [] h n i = absurd i
fields_range m (t ∷ ts) h n (inl e) = subst IsCoefficient (sym e) h.3
fields_range m (t ∷ ts) h n (inr i) = fields_range (suc t.field) ts h.4 n i

pub remainders_range : (rs : Remainders) → AreRemainders rs → (n : ℤ) → IsOfRemainders n rs → IsCoefficient n
remainders_range no_remainders h n i = absurd i
remainders_range (remainder a f k rs) h n (inl e) = subst IsCoefficient (sym e) h.1
remainders_range (remainder a f k rs) h n (inr i) = remainders_range rs h.4 n i

pub none_outside : (f : Form) → IsForm f → (n : ℤ) → IsOutside f n → ⊥
none_outside (form c ts rs) h n (inl o) = o.1 (subst IsLabelNumber (sym o.0) h.0)
none_outside (form c ts rs) h n (inr o) = o.1 (elim o.0 as (λ _. IsCoefficient n) [ inl i ↦ fields_range 0 ts h.1 n i | inr i ↦ remainders_range rs h.2 n i ])

-- a product of two constants, as the code computes it
pub held_constant : (by a : ℤ) → IsLabelNumber by → IsLabelNumber a → to_z w128 (of_z w128 (to_z w128 (of_z w128 by) *ℤ to_z w128 (of_z w128 a))) ≡ by *ℤ a
held_constant by a h g =
    let x : unsigned_abs by ≤ 2 ^ 63 = omega (arith, ints) in
    let y : unsigned_abs a ≤ 2 ^ 63 = omega (arith, ints) in
    let p = small_product by a (2 ^ 63) (2 ^ 63) (2 ^ 126) x y (lit≤ tt) in
    let one = to_z-of_z w128 by (fits_128 by (omega arith)) in
    let two = to_z-of_z w128 a (fits_128 a (omega arith)) in
    ap (λ z. to_z w128 (of_z w128 z)) (λ i. one i *ℤ two i) ∙ to_z-of_z w128 (by *ℤ a) (fits_128 (by *ℤ a) (omega arith))

-- a product by a number that is not 0
pub product_is : (by c : ℤ) (ts : List Term) (rs : Remainders) → (by ≡ pos 0 → ⊥) → product_form by (form c ts rs) ≡ form (by *ℤ c) (scaled_fields by ts) (scaled_remainders by rs)
product_is by c ts rs n = cases (int_eq by (pos 0)) refl
  where
    cases : (b : Bool) → int_eq by (pos 0) ≡ b → cond b (number_form (pos 0)) (form (by *ℤ c) (scaled_fields by ts) (scaled_remainders by rs)) ≡ form (by *ℤ c) (scaled_fields by ts) (scaled_remainders by rs)
    cases false e = refl
    cases true e = absurd (n (int_eq-out by (pos 0) e))

-- a form that is more than a constant is one term of its remainder
pub remainder_is : (c : ℤ) (ts : List Term) (rs : Remainders) (k : ℕ) → (ts ≡ [] → rs ≡ no_remainders → ⊥) → remainder_form (form c ts rs) k ≡ form (pos 0) [] (remainder (pos 1) (form c ts rs) k no_remainders)
remainder_is c [] no_remainders k n = absurd (n refl refl)
remainder_is c (t ∷ ts) rs k n = refl
remainder_is c [] (remainder a f m rs) k n = refl

-- a constant, and a coefficient times a constant more
pub record HasConstant (s by a : ℤ) : Type 0 where
  pub product : FitsSigned w128 (to_z w128 (of_z w128 by) *ℤ to_z w128 (of_z w128 a))
  pub fits : FitsSigned w128 (to_z w128 (of_z w128 s) +ℤ to_z w128 (of_z w128 (to_z w128 (of_z w128 by) *ℤ to_z w128 (of_z w128 a))))
  pub is : to_z w128 (of_z w128 (to_z w128 (of_z w128 s) +ℤ to_z w128 (of_z w128 (to_z w128 (of_z w128 by) *ℤ to_z w128 (of_z w128 a))))) ≡ s +ℤ (by *ℤ a)

pub has_constant : (s by a : ℤ) → unsigned_abs s ≤ 2 ^ 126 → unsigned_abs by ≤ 2 ^ 31 → IsLabelNumber a → HasConstant s by a
has_constant s by a h b g =
    let y : unsigned_abs a ≤ 2 ^ 63 = omega (arith, ints) in
    let p = small_product by a (2 ^ 31) (2 ^ 63) (2 ^ 94) b y (lit≤ tt) in
    let t = small_sum (2 ^ 126) (2 ^ 94) s (by *ℤ a) h p in
    let one = to_z-of_z w128 by (fits_128 by (omega arith)) in
    let two = to_z-of_z w128 a (fits_128 a (omega arith)) in
    let zero_s = to_z-of_z w128 s (fits_128 s (omega arith)) in
    let times : to_z w128 (of_z w128 by) *ℤ to_z w128 (of_z w128 a) ≡ by *ℤ a = λ i. one i *ℤ two i in
    let fp = fits_128 (by *ℤ a) (omega arith) in
    let whole = fits_128 (s +ℤ (by *ℤ a)) (omega arith) in
    let inner : to_z w128 (of_z w128 (to_z w128 (of_z w128 by) *ℤ to_z w128 (of_z w128 a))) ≡ by *ℤ a = ap (λ z. to_z w128 (of_z w128 z)) times ∙ to_z-of_z w128 (by *ℤ a) fp in
    let sum : to_z w128 (of_z w128 s) +ℤ to_z w128 (of_z w128 (to_z w128 (of_z w128 by) *ℤ to_z w128 (of_z w128 a))) ≡ s +ℤ (by *ℤ a) = λ i. zero_s i +ℤ inner i in
    record {
      product = subst (FitsSigned w128) (sym times) fp;
      fits = subst (FitsSigned w128) (sym sum) whole;
      is = ap (λ z. to_z w128 (of_z w128 z)) sum ∙ to_z-of_z w128 (s +ℤ (by *ℤ a)) whole;
    }

-- the constant of a sum after one more form
pub constant_more : (i : ℕ) (s by : ℤ) (f : Form) → IsForm f → unsigned_abs by ≤ 2 ^ 31 → unsigned_abs s ≤ i * 2 ^ 94 → unsigned_abs (s +ℤ (by *ℤ constant_of f)) ≤ (i + 1) * 2 ^ 94
constant_more i s by (form c ts rs) h b l =
    let g = h.0 in
    let y : unsigned_abs c ≤ 2 ^ 63 = omega (arith, ints) in
    let p = small_product by c (2 ^ 31) (2 ^ 63) (2 ^ 94) b y (lit≤ tt) in
    let t = small_sum (i * 2 ^ 94) (2 ^ 94) s (by *ℤ c) l p in
    omega arith

pub fields_none : (ts : List FieldTerm) → plain_fields ts ≡ [] → length ts ≡ 0
fields_none [] e = refl
fields_none (t ∷ ts) e = absurd (cc)

pub remainders_none : (ts : List RemTerm) → plain_remainders ts ≡ no_remainders → length ts ≡ 0
remainders_none [] e = refl
remainders_none (t ∷ ts) e = absurd (cc)

-- ---- parts of a sum

pub parts_drop : (ps : List Signed) (k : ℕ) (d : Signed) → k < length ps → plain_parts (drop k ps) ≡ record { minus = (get_or ps k d).minus; added = (get_or ps k d).form } ∷ plain_parts (drop (k + 1) ps)
parts_drop ps k d h = rw (add-one k) (go ps k h)
  where
    go : (ps : List Signed) (k : ℕ) → k < length ps → plain_parts (drop k ps) ≡ record { minus = (get_or ps k d).minus; added = (get_or ps k d).form } ∷ plain_parts (drop (suc k) ps)
    go [] k h = absurd (omega arith)
    go (p ∷ ps) zero h = refl
    go (p ∷ ps) (suc k) h = go ps k (omega arith)

pub sign_small : (b : Bool) → unsigned_abs (sign b) ≤ 2 ^ 31
sign_small true = lit≤ tt
sign_small false = lit≤ tt

pub constant_after : (by : ℤ) (f : Form) (s : Sum) → (add_form by f s).constant ≡ s.constant +ℤ (by *ℤ constant_of f)
constant_after by (form c ts rs) s = refl
