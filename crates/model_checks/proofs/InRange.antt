-- A form is in range where none of its numbers is outside.
use Rattle.std.proofs.Common.{◌≡◌, ◌<◌, ◌^◌, inl, inr, Bool, true, false, ◌&&◌, List, [], ◌∷◌, refl, sym, ap, ◌∙◌, subst, arith}
use Rattle.std.proofs.lemmas.Bool.{and_from}
use Rattle.std.proofs.Math.IntN.{ℤ, pos, negsuc}
use Rattle.std.proofs.lemmas.Int.{ints}
use Rattle.std.proofs.lemmas.Bool.Decides.{nat_tests}
use Rattle.model_form.specs.Form.{Form, form, Term, Remainders, no_remainders, remainder}
use Rattle.model_tree.specs.Range.{is_label_number, IsLabelNumber}
use Rattle.model_form.specs.Ranges.{IsCoefficient, IsOfFields, IsOfRemainders, IsOutside}
use Rattle.model_checks.specs.Forms.{is_coefficient, are_coefficients, are_multiples, is_in_range}

pub constant_out : (z : ℤ) → is_label_number z ≡ true → IsLabelNumber z
constant_out (pos n) e = let low : n < 2 ^ 63 = grind (arith, nat_tests) in omega (arith, ints)
constant_out (negsuc n) e = let low : n < 2 ^ 63 = grind (arith, nat_tests) in omega (arith, ints)

pub constant_in : (z : ℤ) → IsLabelNumber z → is_label_number z ≡ true
constant_in (pos n) h = let low : n < 2 ^ 63 = omega (arith, ints) in grind (arith, nat_tests)
constant_in (negsuc n) h = let low : n < 2 ^ 63 = omega (arith, ints) in grind (arith, nat_tests)

coefficient_out : (z : ℤ) → is_coefficient z ≡ true → IsCoefficient z
coefficient_out z e = grind (arith, nat_tests)

coefficient_in : (z : ℤ) → IsCoefficient z → is_coefficient z ≡ true
coefficient_in z h = grind (arith, nat_tests)

first_false : (a b : Bool) → a ≡ false → (a && b) ≡ false
first_false a b e = ap (λ x. x && b) e

second_false : (a b : Bool) → b ≡ false → (a && b) ≡ false
second_false true b e = e
second_false false b e = refl

is_false : (b : Bool) → (b ≡ true → ⊥) → b ≡ false
is_false true n = absurd (n refl)
is_false false n = refl

is_true : (b : Bool) → (b ≡ false → ⊥) → b ≡ true
is_true true n = refl
is_true false n = absurd (n refl)

no_constant : (z n : ℤ) → n ≡ z → (IsLabelNumber n → ⊥) → is_label_number z ≡ false
no_constant z n e out = is_false (is_label_number z) (λ t. out (subst IsLabelNumber (sym e) (constant_out z t)))

no_coefficient : (z n : ℤ) → n ≡ z → (IsCoefficient n → ⊥) → is_coefficient z ≡ false
no_coefficient z n e out = is_false (is_coefficient z) (λ t. out (subst IsCoefficient (sym e) (coefficient_out z t)))

fields_out : (ts : List Term) (n : ℤ) → IsOfFields n ts → (IsCoefficient n → ⊥) → are_coefficients ts ≡ false
fields_out [] n i out = absurd i
fields_out (t ∷ ts) n (inl e) out = first_false (is_coefficient t.coefficient) (are_coefficients ts) (no_coefficient t.coefficient n e out)
fields_out (t ∷ ts) n (inr i) out = second_false (is_coefficient t.coefficient) (are_coefficients ts) (fields_out ts n i out)

remainders_out : (rs : Remainders) (n : ℤ) → IsOfRemainders n rs → (IsCoefficient n → ⊥) → are_multiples rs ≡ false
remainders_out no_remainders n i out = absurd i
remainders_out (remainder a f k rs) n (inl e) out = first_false (is_coefficient a) (are_multiples rs) (no_coefficient a n e out)
remainders_out (remainder a f k rs) n (inr i) out = second_false (is_coefficient a) (are_multiples rs) (remainders_out rs n i out)

pub is_outside : (f : Form) (n : ℤ) → IsOutside f n → is_in_range f ≡ false
is_outside (form c ts rs) n (inl o) = first_false (is_label_number c) (are_coefficients ts && are_multiples rs) (no_constant c n o.0 o.1)
is_outside (form c ts rs) n (inr o) = second_false (is_label_number c) (are_coefficients ts && are_multiples rs) (elim o.0 as (λ _. (are_coefficients ts && are_multiples rs) ≡ false) [
  | inl i ↦ first_false (are_coefficients ts) (are_multiples rs) (fields_out ts n i o.1)
  | inr i ↦ second_false (are_coefficients ts) (are_multiples rs) (remainders_out rs n i o.1)
])

all_fields : (ts : List Term) → ((n : ℤ) → IsOfFields n ts → (IsCoefficient n → ⊥) → ⊥) → are_coefficients ts ≡ true
all_fields [] none = refl
all_fields (t ∷ ts) none =
    and_from (is_coefficient t.coefficient) (are_coefficients ts)
    (is_true (is_coefficient t.coefficient) (λ e. none t.coefficient (inl refl) (λ h. (let no : true ≡ false = sym (coefficient_in t.coefficient h) ∙ e in absurd (cc)))))
    (all_fields ts (λ n i out. none n (inr i) out))

all_remainders : (rs : Remainders) → ((n : ℤ) → IsOfRemainders n rs → (IsCoefficient n → ⊥) → ⊥) → are_multiples rs ≡ true
all_remainders no_remainders none = refl
all_remainders (remainder a f k rs) none =
    and_from (is_coefficient a) (are_multiples rs)
    (is_true (is_coefficient a) (λ e. none a (inl refl) (λ h. (let no : true ≡ false = sym (coefficient_in a h) ∙ e in absurd (cc)))))
    (all_remainders rs (λ n i out. none n (inr i) out))

pub is_within : (f : Form) → ((n : ℤ) → IsOutside f n → ⊥) → is_in_range f ≡ true
is_within (form c ts rs) none =
    and_from (is_label_number c) (are_coefficients ts && are_multiples rs)
    (is_true (is_label_number c) (λ e. none c (inl (refl, λ h. (let no : true ≡ false = sym (constant_in c h) ∙ e in absurd (cc))))))
    (and_from (are_coefficients ts) (are_multiples rs) (all_fields ts (λ n i out. none n (inr (inl i, out)))) (all_remainders rs (λ n i out. none n (inr (inr i, out)))))
