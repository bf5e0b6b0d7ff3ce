-- The form of a whole number has its value.
use Rattle.std.proofs.Common.{◌≡◌, ℕ, suc, ◌<◌, ◌≤◌, ◌&&◌, ◌||◌, List, [], ◌∷◌, map, length, get_or, Bool, true, false, cond, Option, Some, refl, ap, sym, ◌∙◌, subst, arith}
use Rattle.std.proofs.lemmas.Bool.{and_parts}
use Rattle.std.proofs.Math.IntN.{ℤ, pos, negsuc, ◌+ℤ◌, ◌*ℤ◌, neg_ℤ}
use Rattle.std.specs.Int.{int_rem_euclid}
use Rattle.std.proofs.lemmas.Int.{ints}
use Rattle.model_tree.specs.Limits.{most_fields}
use Rattle.model_tree.specs.Label.{Field, whole, truth, text}
use Rattle.model_tree.specs.Signature.{Sort, wholes, truths, PlainField, sort_of}
use Rattle.model_grammar.specs.declared.Chain.TheVariants.{Disjunction, Conjunction, Sum, Product}
use Rattle.model_grammar.specs.Syntax.{Expr, field, number, negation, compare, minus, chain, Parts, no_parts, part}
use Rattle.model_grammar.specs.Syntax as syntax
use Rattle.model_label.specs.Fields.{same_name, same_sort, sort_at, is_field_of, has_field, number_at, value_at}
use Rattle.model_label.specs.Meaning.{value_of, as_whole, sum_of, product_of}
use Rattle.model_label.proofs.Sorted.{field_sort}
use Rattle.model_form.specs.Form.{Form, form, no_remainders, remainder, value, constant_of}
use Rattle.model_form.specs.Sums.{Part, number_form, field_form, product_form, sign}
use Rattle.model_form.specs.Meaning.{ArePartsLow, parts_value}
use Rattle.model_form.specs.Over.{IsOver}
use Rattle.model_form.proofs.Values.{sum_form-value, product_form-value, remainder_form-value}
use Rattle.model_guard.specs.Forms.{wholes_in, is_constant, times, is_divisor, divisor_of, form_of, added, step, multiplied, is_whole, are_wholes, are_factors}
use Rattle.model_guard.specs.Guards.{is_guard}
use Rattle.model_guard.proofs.Over.{ArePartsOver, over_low, sum_over, product_over, remainder_over}

-- ---- fields

whole_step : (b : Bool) (v : Field) (vs : List Field) (n : ℕ) (rest : Option Sort) (later : Field) → (is_field_of wholes rest ≡ true → later ≡ whole (get_or (wholes_in vs) n (pos 0))) → is_field_of wholes (cond b (Some (sort_of v)) rest) ≡ true → cond b v later ≡ whole (get_or (wholes_in (v ∷ vs)) (cond b 0 (cond (same_sort (sort_of v) wholes) (suc n) n)) (pos 0))
whole_step true (whole m) vs n rest later below e = refl
whole_step true (truth c) vs n rest later below e = cc
whole_step true (text t) vs n rest later below e = cc
whole_step false (whole m) vs n rest later below e = below e
whole_step false (truth c) vs n rest later below e = below e
whole_step false (text t) vs n rest later below e = below e

-- a field that is a whole number
pub whole_field : (fields : List PlainField) (values : List Field) (name : List ℕ) → map sort_of values ≡ map (λ f. f.sort) fields → has_field fields wholes name ≡ true → value_at fields values name ≡ whole (get_or (wholes_in values) (number_at fields wholes name) (pos 0))
whole_field [] values name sorts e = cc
whole_field (f ∷ fs) [] name sorts e = cc
whole_field (f ∷ fs) (v ∷ vs) name sorts e =
    let first : f.sort ≡ sort_of v = cc in
    let later : map sort_of vs ≡ map (λ g. g.sort) fs = cc in
    subst (λ s. cond (same_name f.name name) v (value_at fs vs name) ≡ whole (get_or (wholes_in (v ∷ vs)) (cond (same_name f.name name) 0 (cond (same_sort s wholes) (suc (number_at fs wholes name)) (number_at fs wholes name))) (pos 0))) (sym first)
    (whole_step (same_name f.name name) v vs (number_at fs wholes name) (sort_at fs name) (value_at fs vs name) (whole_field fs vs name later)
    (subst (λ s. is_field_of wholes (cond (same_name f.name name) (Some s) (sort_at fs name)) ≡ true) first e))

low_step : (b t rest : Bool) (n c : ℕ) → (rest ≡ true → n < c) → cond b t rest ≡ true → cond b 0 (cond t (suc n) n) < suc c
low_step true true rest n c below e = omega arith
low_step true false rest n c below e = cc
low_step false true rest n c below e = let h : n < c = below e in omega (arith, h)
low_step false false rest n c below e = let h : n < c = below e in omega (arith, h)

pub found_in : (sort s : Sort) (b : Bool) (rest : Option Sort) → is_field_of sort (cond b (Some s) rest) ≡ cond b (same_sort s sort) (is_field_of sort rest)
found_in sort s true rest = refl
found_in sort s false rest = refl

-- the number of a field of a sort is less than there are fields
pub number_few : (fields : List PlainField) (sort : Sort) (name : List ℕ) → has_field fields sort name ≡ true → number_at fields sort name < length fields
number_few [] sort name e = cc
number_few (f ∷ fs) sort name e =
    low_step (same_name f.name name) (same_sort f.sort sort) (has_field fs sort name) (number_at fs sort name) (length fs) (number_few fs sort name) (sym (found_in sort f.sort (same_name f.name name) (sort_at fs name)) ∙ e)

-- ---- the fields that a form speaks of

module _ (fields : List PlainField) (n : ℕ) (low : (name : List ℕ) → has_field fields wholes name ≡ true → number_at fields wholes name < n) where
  field_over : (b : Bool) (k : ℕ) → (b ≡ true → k < n) → IsOver n (cond b (field_form k) (number_form (pos 0)))
  field_over true k h = ((h refl, tt), tt)
  field_over false k h = (tt, tt)

  times_over : (f g : Form) → IsOver n f → IsOver n g → IsOver n (times f g)
  times_over f g o p = by (is_constant g)
    where
      by : (b : Bool) → IsOver n (cond b (product_form (constant_of g) f) (product_form (constant_of f) g))
      by true = product_over n (constant_of g) f o
      by false = product_over n (constant_of f) g p

  step_over : (before : Form) (divides : Bool) (e : Expr) → IsOver n before → IsOver n (form_of fields e) → IsOver n (step before divides e (form_of fields e))
  step_over before true e o p = remainder_over n before (divisor_of e) o
  step_over before false e o p = times_over before (form_of fields e) o p

  mutual
    -- a form speaks of the whole numbers that there are
    pub form_over : (e : Expr) → IsOver n (form_of fields e)
    form_over (field place name) = field_over (has_field fields wholes name) (number_at fields wholes name) (low name)
    form_over (number place z) = (tt, tt)
    form_over (syntax.text place t) = (tt, tt)
    form_over (syntax.truth place b) = (tt, tt)
    form_over (negation place e) = (tt, tt)
    form_over (compare place rel a b) = (tt, tt)
    form_over (minus place e) = product_over n (negsuc 0) (form_of fields e) (form_over e)
    form_over (chain Disjunction place parts) = (tt, tt)
    form_over (chain Conjunction place parts) = (tt, tt)
    form_over (chain Sum place parts) = sum_over n (added fields parts) (added_over parts)
    form_over (chain Product place parts) = multiplied_over (number_form (pos 1)) parts (tt, tt)

    pub added_over : (parts : Parts) → ArePartsOver n (added fields parts)
    added_over no_parts = tt
    added_over (part subtracted e parts) = (form_over e, added_over parts)

    pub multiplied_over : (before : Form) (parts : Parts) → IsOver n before → IsOver n (multiplied fields before parts)
    multiplied_over before no_parts o = o
    multiplied_over before (part divides e parts) o = multiplied_over (step before divides e (form_of fields e)) parts (step_over before divides e o (form_over e))

-- ---- values

parts_low : (n : ℕ) → n ≤ most_fields → (ps : List Part) → ArePartsOver n ps → ArePartsLow ps
parts_low n few [] o = tt
parts_low n few (p ∷ ps) o = (over_low n few p.added o.0, parts_low n few ps o.1)

-- a constant has its value everywhere
constant_value : (f : Form) (values : List ℤ) → is_constant f ≡ true → value f values ≡ constant_of f
constant_value (form c [] no_remainders) values e = omega (arith, ints)
constant_value (form c [] (remainder a f k rs)) values e = cc
constant_value (form c (t ∷ ts) rs) values e = cc

times_value : (f g : Form) (values : List ℤ) → (is_constant f || is_constant g) ≡ true → value (times f g) values ≡ value f values *ℤ value g values
times_value f g values = by (is_constant g) refl
  where
    turn : (x y : ℤ) → x *ℤ y ≡ y *ℤ x
    turn x y = omega (arith, ints)

    other : (a : Bool) → (a || false) ≡ true → a ≡ true
    other true e = refl
    other false e = cc

    by : (b : Bool) → is_constant g ≡ b → (is_constant f || b) ≡ true → value (cond b (product_form (constant_of g) f) (product_form (constant_of f) g)) values ≡ value f values *ℤ value g values
    by true is e = product_form-value (constant_of g) f values ∙ ap (λ z. z *ℤ value f values) (sym (constant_value g values is)) ∙ turn (value g values) (value f values)
    by false is e = product_form-value (constant_of f) g values ∙ ap (λ z. z *ℤ value g values) (sym (constant_value f values (other (is_constant f) e)))

divisor_value : (e : Expr) (fields : List PlainField) (values : List Field) → is_divisor e ≡ true → as_whole (value_of fields values e) ≡ pos (divisor_of e)
divisor_value (field place name) fields values h = cc
divisor_value (number place (pos n)) fields values h = ap (λ b. pos (cond b n 1)) (sym h)
divisor_value (number place (negsuc n)) fields values h = cc
divisor_value (syntax.text place t) fields values h = cc
divisor_value (syntax.truth place b) fields values h = cc
divisor_value (negation place e) fields values h = cc
divisor_value (compare place rel a b) fields values h = cc
divisor_value (minus place e) fields values h = cc
divisor_value (chain kind place parts) fields values h = cc

module _ (fields : List PlainField) (values : List Field) (few : length fields ≤ most_fields) (sorts : map sort_of values ≡ map (λ f. f.sort) fields) where
  abbrev at : Form → ℤ
  at f = value f (wholes_in values)

  few_fields : (name : List ℕ) → has_field fields wholes name ≡ true → number_at fields wholes name < length fields
  few_fields name has = number_few fields wholes name has

  field_value : (k : ℕ) → at (field_form k) ≡ get_or (wholes_in values) k (pos 0)
  field_value k = alone (get_or (wholes_in values) k (pos 0))
    where
      alone : (z : ℤ) → pos 0 +ℤ (((pos 1 *ℤ z) +ℤ pos 0) +ℤ pos 0) ≡ z
      alone z = omega (arith, ints)

  number_value : (z : ℤ) → at (number_form z) ≡ z
  number_value z = omega (arith, ints)

  minus_value : (z : ℤ) → negsuc 0 *ℤ z ≡ neg_ℤ z
  minus_value z = omega (arith, ints)

  added_value : (subtracted : Bool) (x z rest rest' : ℤ) → x ≡ z → rest ≡ rest' → (sign subtracted *ℤ x) +ℤ rest ≡ cond subtracted (neg_ℤ z) z +ℤ rest'
  added_value true x z rest rest' e f = (λ i. (negsuc 0 *ℤ e i) +ℤ f i) ∙ ap (λ y. y +ℤ rest') (minus_value z)
  added_value false x z rest rest' e f = (λ i. (pos 1 *ℤ e i) +ℤ f i) ∙ ap (λ y. y +ℤ rest') (once z)
    where
      once : (y : ℤ) → pos 1 *ℤ y ≡ y
      once y = omega (arith, ints)

  field_at : (name : List ℕ) → has_field fields wholes name ≡ true → at (cond (has_field fields wholes name) (field_form (number_at fields wholes name)) (number_form (pos 0))) ≡ as_whole (value_at fields values name)
  field_at name has =
      ap (λ b. at (cond b (field_form (number_at fields wholes name)) (number_form (pos 0)))) has ∙ field_value (number_at fields wholes name) ∙ sym (ap as_whole (whole_field fields values name sorts has))

  -- one more step of a product
  step_value : (before : Form) (z : ℤ) (divides : Bool) (e : Expr) → at before ≡ z → (is_whole fields e ≡ true → at (form_of fields e) ≡ as_whole (value_of fields values e))
      → cond divides (is_divisor e) (is_whole fields e && (is_constant before || is_constant (form_of fields e))) ≡ true
      → at (step before divides e (form_of fields e)) ≡ cond divides (int_rem_euclid z (as_whole (value_of fields values e))) (z *ℤ as_whole (value_of fields values e))
  step_value before z true e is of h = remainder_form-value before (divisor_of e) (wholes_in values) ∙ (λ i. int_rem_euclid (is i) (sym (divisor_value e fields values h) i))
  step_value before z false e is of h =
      let both = and_parts (is_whole fields e) (is_constant before || is_constant (form_of fields e)) h in times_value before (form_of fields e) (wholes_in values) both.1 ∙ (λ i. is i *ℤ of both.0 i)

  mutual
    pub form_value : (e : Expr) → is_whole fields e ≡ true → at (form_of fields e) ≡ as_whole (value_of fields values e)
    form_value (field place name) h = field_at name h
    form_value (number place z) h = number_value z
    form_value (syntax.text place t) h = cc
    form_value (syntax.truth place b) h = cc
    form_value (negation place e) h = cc
    form_value (compare place rel a b) h = cc
    form_value (minus place e) h = product_form-value (negsuc 0) (form_of fields e) (wholes_in values) ∙ ap (λ z. negsuc 0 *ℤ z) (form_value e h) ∙ minus_value (as_whole (value_of fields values e))
    form_value (chain Disjunction place parts) h = cc
    form_value (chain Conjunction place parts) h = cc
    form_value (chain Sum place parts) h =
        sum_form-value (added fields parts) (wholes_in values) (parts_low (length fields) few (added fields parts) (added_over fields (length fields) few_fields parts)) ∙ sum_value parts h
    form_value (chain Product place parts) h = product_value (number_form (pos 1)) (pos 1) parts (number_value (pos 1)) h

    sum_value : (parts : Parts) → are_wholes fields parts ≡ true → parts_value (added fields parts) (wholes_in values) ≡ sum_of fields values parts
    sum_value no_parts h = refl
    sum_value (part subtracted e parts) h =
        let both = and_parts (is_whole fields e) (are_wholes fields parts) h in
        added_value subtracted (at (form_of fields e)) (as_whole (value_of fields values e)) (parts_value (added fields parts) (wholes_in values)) (sum_of fields values parts) (form_value e both.0) (sum_value parts both.1)

    product_value : (before : Form) (z : ℤ) (parts : Parts) → at before ≡ z → are_factors fields before parts ≡ true → at (multiplied fields before parts) ≡ product_of fields values z parts
    product_value before z no_parts is h = is
    product_value before z (part divides e parts) is h =
        let both = and_parts (cond divides (is_divisor e) (is_whole fields e && (is_constant before || is_constant (form_of fields e)))) (are_factors fields (step before divides e (form_of fields e)) parts) h in
        product_value (step before divides e (form_of fields e)) (cond divides (int_rem_euclid z (as_whole (value_of fields values e))) (z *ℤ as_whole (value_of fields values e))) parts (step_value before z divides e is (form_value e) both.0) both.1

-- ---- sorts

pub whole_sort : (fields : List PlainField) (values : List Field) (e : Expr) → map sort_of values ≡ map (λ f. f.sort) fields → is_whole fields e ≡ true → sort_of (value_of fields values e) ≡ wholes
whole_sort fields values (field place name) sorts h = field_sort fields values wholes name sorts h
whole_sort fields values (number place z) sorts h = refl
whole_sort fields values (syntax.text place t) sorts h = cc
whole_sort fields values (syntax.truth place b) sorts h = cc
whole_sort fields values (negation place e) sorts h = cc
whole_sort fields values (compare place rel a b) sorts h = cc
whole_sort fields values (minus place e) sorts h = refl
whole_sort fields values (chain Disjunction place parts) sorts h = cc
whole_sort fields values (chain Conjunction place parts) sorts h = cc
whole_sort fields values (chain Sum place parts) sorts h = refl
whole_sort fields values (chain Product place parts) sorts h = refl

pub guard_sort : (fields : List PlainField) (values : List Field) (e : Expr) → map sort_of values ≡ map (λ f. f.sort) fields → is_guard fields e ≡ true → sort_of (value_of fields values e) ≡ truths
guard_sort fields values (field place name) sorts h = field_sort fields values truths name sorts h
guard_sort fields values (number place z) sorts h = cc
guard_sort fields values (syntax.text place t) sorts h = cc
guard_sort fields values (syntax.truth place b) sorts h = refl
guard_sort fields values (negation place e) sorts h = refl
guard_sort fields values (compare place rel a b) sorts h = refl
guard_sort fields values (minus place e) sorts h = cc
guard_sort fields values (chain Disjunction place parts) sorts h = refl
guard_sort fields values (chain Conjunction place parts) sorts h = refl
guard_sort fields values (chain Sum place parts) sorts h = cc
guard_sort fields values (chain Product place parts) sorts h = cc
