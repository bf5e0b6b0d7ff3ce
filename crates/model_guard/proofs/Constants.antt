-- An expression with no field in it has a constant form, so a product by it is one of a form and a number.
use Rattle.std.proofs.Common.{◌≡◌, ℕ, List, [], ◌∷◌, Bool, true, false, cond, refl, ap, ◌∙◌}
use Rattle.std.proofs.Math.IntN.{ℤ, pos, negsuc, ◌*ℤ◌}
use Rattle.std.specs.Ordering.{int_eq}
use Rattle.std.proofs.lemmas.Bool.{or_parts}
use Rattle.model_tree.specs.Signature.{wholes, PlainField}
use Rattle.model_grammar.specs.declared.Chain.TheVariants.{Disjunction, Conjunction, Sum, Product}
use Rattle.model_grammar.specs.Syntax.{Expr, field, number, text, truth, negation, compare, minus, chain, Parts, no_parts, part}
use Rattle.model_label.specs.Fields.{has_field, number_at}
use Rattle.model_form.specs.Form.{Form, form, no_remainders, remainder, constant_of}
use Rattle.model_form.specs.Sums.{Part, started, number_form, field_form, add_form, add_parts, sign, product_form, remainder_form}
use Rattle.model_form.specs.Sums as sums
use Rattle.model_guard.specs.Forms.{is_constant, times, divisor_of, form_of, added, step, multiplied, has_whole, have_whole}

product_constant : (by : ℤ) (f : Form) → is_constant f ≡ true → is_constant (product_form by f) ≡ true
product_constant by (form c [] no_remainders) h = cases (int_eq by (pos 0))
  where
    cases : (b : Bool) → is_constant (cond b (number_form (pos 0)) (form (by *ℤ c) [] no_remainders)) ≡ true
    cases true = refl
    cases false = refl
product_constant by (form c [] (remainder a f k rs)) h = cc
product_constant by (form c (t ∷ ts) rs) h = cc

remainder_constant : (f : Form) (k : ℕ) → is_constant f ≡ true → is_constant (remainder_form f k) ≡ true
remainder_constant (form c [] no_remainders) k h = refl
remainder_constant (form c [] (remainder a f m rs)) k h = cc
remainder_constant (form c (t ∷ ts) rs) k h = cc

times_constant : (f g : Form) → is_constant f ≡ true → is_constant g ≡ true → is_constant (times f g) ≡ true
times_constant f g h k = ap (λ b. is_constant (cond b (product_form (constant_of g) f) (product_form (constant_of f) g))) k ∙ product_constant (constant_of g) f h

pub step_constant : (before : Form) (divides : Bool) (e : Expr) (f : Form) → is_constant before ≡ true → is_constant f ≡ true → is_constant (step before divides e f) ≡ true
step_constant before true e f h k = remainder_constant before (divisor_of e) h
step_constant before false e f h k = times_constant before f h k

abbrev AreConstant : List Part → Type 0
AreConstant [] = Unit {0}
AreConstant (p ∷ ps) = (is_constant p.added ≡ true) × AreConstant ps

-- nothing but the constant has been gathered
record IsBare (s : sums.Sum) : Type 0 where
  pub totals : s.totals ≡ (started (pos 0)).totals
  pub terms : s.terms ≡ no_remainders

add_constant : (by : ℤ) (f : Form) (s : sums.Sum) → is_constant f ≡ true → IsBare s → IsBare (add_form by f s)
add_constant by (form c [] no_remainders) s h bare = record { totals = bare.totals; terms = bare.terms }
add_constant by (form c [] (remainder a f k rs)) s h bare = cc
add_constant by (form c (t ∷ ts) rs) s h bare = cc

add_constants : (ps : List Part) (s : sums.Sum) → AreConstant ps → IsBare s → IsBare (add_parts ps s)
add_constants [] s h bare = bare
add_constants (p ∷ ps) s h bare = add_constants ps (add_form (sign p.minus) p.added s) h.1 (add_constant (sign p.minus) p.added s h.0 bare)

bare_constant : (s : sums.Sum) → IsBare s → is_constant (sums.form_of_sum s) ≡ true
bare_constant s bare = λ i. is_constant (form s.constant (sums.fields_from 0 (bare.totals i)) (sums.without_zeros (bare.terms i)))

module _ (fields : List PlainField) where
  field_constant : (b : Bool) (k : ℕ) → b ≡ false → is_constant (cond b (field_form k) (number_form (pos 0))) ≡ true
  field_constant true k e = cc
  field_constant false k e = refl

  mutual
    -- the form of an expression that has no whole-number field in it
    pub no_field_constant : (e : Expr) → has_whole fields e ≡ false → is_constant (form_of fields e) ≡ true
    no_field_constant (field place name) h = field_constant (has_field fields wholes name) (number_at fields wholes name) h
    no_field_constant (number place n) h = refl
    no_field_constant (text place t) h = refl
    no_field_constant (truth place b) h = refl
    no_field_constant (negation place e) h = refl
    no_field_constant (compare place rel a b) h = refl
    no_field_constant (minus place e) h = product_constant (negsuc 0) (form_of fields e) (no_field_constant e h)
    no_field_constant (chain Disjunction place parts) h = refl
    no_field_constant (chain Conjunction place parts) h = refl
    no_field_constant (chain Sum place parts) h = bare_constant (add_parts (added fields parts) (started (pos 0))) (add_constants (added fields parts) (started (pos 0)) (parts_constant parts h) (record { totals = refl; terms = refl }))
    no_field_constant (chain Product place parts) h = product_is_constant (number_form (pos 1)) parts refl h

    parts_constant : (parts : Parts) → have_whole fields parts ≡ false → AreConstant (added fields parts)
    parts_constant no_parts h = tt
    parts_constant (part marked e parts) h = let both = or_parts (has_whole fields e) (have_whole fields parts) h in (no_field_constant e both.0, parts_constant parts both.1)

    product_is_constant : (before : Form) (parts : Parts) → is_constant before ≡ true → have_whole fields parts ≡ false → is_constant (multiplied fields before parts) ≡ true
    product_is_constant before no_parts c h = c
    product_is_constant before (part divides e parts) c h =
        let both = or_parts (has_whole fields e) (have_whole fields parts) h in
        product_is_constant (step before divides e (form_of fields e)) parts (step_constant before divides e (form_of fields e) c (no_field_constant e both.0)) both.1
