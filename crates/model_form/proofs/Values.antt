-- The form of an expression has the expression's value.
use Rattle.std.proofs.Common.{◌≡◌, ℕ, zero, suc, ◌+◌, ◌<◌, ◌==◌, ◌&&◌, List, [], ◌∷◌, length, get_or, Bool, true, false, cond, refl, ap, sym, ◌∙◌, arith}
use Rattle.std.proofs.lemmas.Bool.{eqb-true}
use Rattle.std.proofs.Math.ListN.{set, length-set}
use Rattle.std.proofs.Math.IntN.{ℤ, pos, ◌+ℤ◌, ◌*ℤ◌}
use Rattle.std.specs.Ordering.{int_eq}
use Rattle.std.proofs.lemmas.Int.{ints}
use Rattle.math_int.proofs.Laws.{times-add, add-times, times-assoc}
use Rattle.model_form.specs.Form.{Form, form, Remainders, no_remainders, remainder, Term, fields_of, value, remainders_value, terms_value, modulo}
use Rattle.model_form.specs.Same.{same_form}
use Rattle.model_form.specs.Sums.{Sum, Part, started, number_form, add_fields, add_like, add_remainders, add_form, add_parts, fields_from, without_zeros, form_of_sum, sign, sum_form, product_form, scaled_fields, scaled_remainders, remainder_form, subst_form, put_fields, put_remainders, is_like}
use Rattle.model_form.specs.Meaning.{AreLow, parts_value, ArePartsLow, AreFormsLow, values_of}
use Rattle.model_form.proofs.Equals.{same_value}

-- a coefficient is 0, or it is not
pub int_eq-out : (a b : ℤ) → int_eq a b ≡ true → a ≡ b
int_eq-out a b e = grind (arith, ints)

pub both_out : (a b : Bool) → a && b ≡ true → (a ≡ true) × (b ≡ true)
both_out true b e = (refl, e)
both_out false b e = absurd (cc)

-- ---- the value of what is gathered

abbrev pub totals_value : ℕ → List ℤ → List ℤ → ℤ
totals_value n [] values = pos 0
totals_value n (c ∷ cs) values = (c *ℤ get_or values n (pos 0)) +ℤ totals_value (suc n) cs values

abbrev pub sum_value : Sum → List ℤ → ℤ
sum_value s values = s.constant +ℤ (totals_value 0 s.totals values +ℤ remainders_value s.terms values)

pub fields_from-value : (n : ℕ) (cs values : List ℤ) → terms_value (fields_from n cs) values ≡ totals_value n cs values
fields_from-value n [] values = refl
fields_from-value n (c ∷ cs) values = by (int_eq c (pos 0)) refl (fields_from-value (suc n) cs values)
  where
    by : (b : Bool) → int_eq c (pos 0) ≡ b → terms_value (fields_from (suc n) cs) values ≡ totals_value (suc n) cs values
        → terms_value (cond b (fields_from (suc n) cs) (record { field = n; coefficient = c } ∷ fields_from (suc n) cs)) values ≡ totals_value n (c ∷ cs) values
    by false e rest = ap (λ z. (c *ℤ get_or values n (pos 0)) +ℤ z) rest
    by true e rest = let z : c ≡ pos 0 = int_eq-out c (pos 0) e in rest ∙ zero_more (totals_value (suc n) cs values) ∙ ap (λ d. (d *ℤ get_or values n (pos 0)) +ℤ totals_value (suc n) cs values) (sym z)
      where
        zero_more : (t : ℤ) → t ≡ (pos 0 *ℤ get_or values n (pos 0)) +ℤ t
        zero_more t = omega (arith, ints)

pub without_zeros-value : (rs : Remainders) (values : List ℤ) → remainders_value (without_zeros rs) values ≡ remainders_value rs values
without_zeros-value no_remainders values = refl
without_zeros-value (remainder a f k rs) values = by (int_eq a (pos 0)) refl (without_zeros-value rs values)
  where
    zero_more : (m t : ℤ) → t ≡ (pos 0 *ℤ m) +ℤ t
    zero_more m t = omega (arith, ints)

    by : (b : Bool) → int_eq a (pos 0) ≡ b → remainders_value (without_zeros rs) values ≡ remainders_value rs values
        → remainders_value (cond b (without_zeros rs) (remainder a f k (without_zeros rs))) values ≡ remainders_value (remainder a f k rs) values
    by false e rest = ap (λ z. (a *ℤ modulo (value f values) k) +ℤ z) rest
    by true e rest = rest ∙ zero_more (modulo (value f values) k) (remainders_value rs values) ∙ ap (λ d. (d *ℤ modulo (value f values) k) +ℤ remainders_value rs values) (sym (int_eq-out a (pos 0) e))

pub form_of_sum-value : (s : Sum) (values : List ℤ) → value (form_of_sum s) values ≡ sum_value s values
form_of_sum-value s values = λ i. s.constant +ℤ (fields_from-value 0 s.totals values i +ℤ without_zeros-value s.terms values i)

-- ---- a form more

pub set-value : (n i : ℕ) (cs values : List ℤ) (d : ℤ) → i < length cs → totals_value n (set cs i (get_or cs i (pos 0) +ℤ d)) values ≡ totals_value n cs values +ℤ (d *ℤ get_or values (n + i) (pos 0))
set-value n i [] values d h = absurd (omega arith)
set-value n zero (c ∷ cs) values d h =
    let e : get_or values (n + 0) (pos 0) ≡ get_or values n (pos 0) = ap (λ k. get_or values k (pos 0)) (omega arith) in
    ap (λ z. z +ℤ totals_value (suc n) cs values) (add-times (get_or values n (pos 0)) c d) ∙ turned (c *ℤ get_or values n (pos 0)) (d *ℤ get_or values n (pos 0)) (totals_value (suc n) cs values) ∙ ap (λ z. totals_value n (c ∷ cs) values +ℤ (d *ℤ z)) (sym e)
  where
    turned : (x y z : ℤ) → (x +ℤ y) +ℤ z ≡ (x +ℤ z) +ℤ y
    turned x y z = omega (arith, ints)
set-value n (suc i) (c ∷ cs) values d h =
    let e : get_or values (suc n + i) (pos 0) ≡ get_or values (n + suc i) (pos 0) = ap (λ k. get_or values k (pos 0)) (omega arith) in
    let r = set-value (suc n) i cs values d (omega arith) in
    ap (λ z. (c *ℤ get_or values n (pos 0)) +ℤ z) (r ∙ ap (λ z. totals_value (suc n) cs values +ℤ (d *ℤ z)) e) ∙ turned (c *ℤ get_or values n (pos 0)) (totals_value (suc n) cs values) (d *ℤ get_or values (n + suc i) (pos 0))
  where
    turned : (x y z : ℤ) → x +ℤ (y +ℤ z) ≡ (x +ℤ y) +ℤ z
    turned x y z = omega (arith, ints)

pub length-add_fields : (by : ℤ) (ts : List Term) (totals : List ℤ) → length (add_fields by ts totals) ≡ length totals
length-add_fields by [] totals = refl
length-add_fields by (t ∷ ts) totals = length-add_fields by ts _ ∙ length-set totals t.field _

pub add_fields-value : (by : ℤ) (ts : List Term) (totals values : List ℤ) → AreLow ts → length totals ≡ 8 → totals_value 0 (add_fields by ts totals) values ≡ totals_value 0 totals values +ℤ (by *ℤ terms_value ts values)
add_fields-value by [] totals values h l = omega (arith, ints)
add_fields-value by (t ∷ ts) totals values h l =
    let v = get_or values t.field (pos 0) in
    let more = set totals t.field (get_or totals t.field (pos 0) +ℤ (by *ℤ t.coefficient)) in
    let low : t.field < length totals = omega (arith, h.0) in
    let one = set-value 0 t.field totals values (by *ℤ t.coefficient) low in
    let place : get_or values (0 + t.field) (pos 0) ≡ v = ap (λ k. get_or values k (pos 0)) (omega arith) in
    let rest = add_fields-value by ts more values h.1 (length-set totals t.field _ ∙ l) in
    rest ∙ ap (λ z. z +ℤ (by *ℤ terms_value ts values)) (one ∙ ap (λ z. totals_value 0 totals values +ℤ ((by *ℤ t.coefficient) *ℤ z)) place)
    ∙ gather (totals_value 0 totals values) ((by *ℤ t.coefficient) *ℤ v) (by *ℤ terms_value ts values)
    ∙ ap (λ z. totals_value 0 totals values +ℤ z) (ap (λ z. z +ℤ (by *ℤ terms_value ts values)) (times-assoc by t.coefficient v) ∙ sym (times-add by (t.coefficient *ℤ v) (terms_value ts values)))
  where
    gather : (x y z : ℤ) → (x +ℤ y) +ℤ z ≡ x +ℤ (y +ℤ z)
    gather x y z = omega (arith, ints)

pub add_like-value : (c : ℤ) (g : Form) (m : ℕ) (rs : Remainders) (values : List ℤ) → remainders_value (add_like c g m rs) values ≡ remainders_value rs values +ℤ (c *ℤ modulo (value g values) m)
add_like-value c g m no_remainders values = omega (arith, ints)
add_like-value c g m (remainder a f k rs) values = by (is_like f k g m) refl (add_like-value c g m rs values)
  where
    turned : (x y z : ℤ) → (x +ℤ y) +ℤ z ≡ (x +ℤ z) +ℤ y
    turned x y z = omega (arith, ints)

    gather : (x y z : ℤ) → x +ℤ (y +ℤ z) ≡ (x +ℤ y) +ℤ z
    gather x y z = omega (arith, ints)

    by : (b : Bool) → is_like f k g m ≡ b → remainders_value (add_like c g m rs) values ≡ remainders_value rs values +ℤ (c *ℤ modulo (value g values) m)
        → remainders_value (cond b (remainder (a +ℤ c) f k rs) (remainder a f k (add_like c g m rs))) values ≡ remainders_value (remainder a f k rs) values +ℤ (c *ℤ modulo (value g values) m)
    by false e rest = ap (λ z. (a *ℤ modulo (value f values) k) +ℤ z) rest ∙ gather (a *ℤ modulo (value f values) k) (remainders_value rs values) (c *ℤ modulo (value g values) m)
    by true e rest =
        let like = both_out (k == m) (same_form f g) e in
        let same : modulo (value f values) k ≡ modulo (value g values) m = λ i. modulo (same_value f g values like.1 i) (eqb-true k m like.0 i) in
        ap (λ z. z +ℤ remainders_value rs values) (add-times (modulo (value f values) k) a c) ∙ turned (a *ℤ modulo (value f values) k) (c *ℤ modulo (value f values) k) (remainders_value rs values)
        ∙ ap (λ z. remainders_value (remainder a f k rs) values +ℤ (c *ℤ z)) same

pub add_remainders-value : (by : ℤ) (rs terms : Remainders) (values : List ℤ) → remainders_value (add_remainders by rs terms) values ≡ remainders_value terms values +ℤ (by *ℤ remainders_value rs values)
add_remainders-value by no_remainders terms values = omega (arith, ints)
add_remainders-value by (remainder a f k rs) terms values =
    let m = modulo (value f values) k in
    add_remainders-value by rs (add_like (by *ℤ a) f k terms) values
    ∙ ap (λ z. z +ℤ (by *ℤ remainders_value rs values)) (add_like-value (by *ℤ a) f k terms values)
    ∙ gather (remainders_value terms values) ((by *ℤ a) *ℤ m) (by *ℤ remainders_value rs values)
    ∙ ap (λ z. remainders_value terms values +ℤ z) (ap (λ z. z +ℤ (by *ℤ remainders_value rs values)) (times-assoc by a m) ∙ sym (times-add by (a *ℤ m) (remainders_value rs values)))
  where
    gather : (x y z : ℤ) → (x +ℤ y) +ℤ z ≡ x +ℤ (y +ℤ z)
    gather x y z = omega (arith, ints)

pub length-add_form : (by : ℤ) (f : Form) (s : Sum) → length (add_form by f s).totals ≡ length s.totals
length-add_form by (form c ts rs) s = length-add_fields by ts s.totals

pub add_form-value : (by : ℤ) (f : Form) (s : Sum) (values : List ℤ) → AreLow (fields_of f) → length s.totals ≡ 8 → sum_value (add_form by f s) values ≡ sum_value s values +ℤ (by *ℤ value f values)
add_form-value by (form c ts rs) s values h l =
    let t = add_fields-value by ts s.totals values h l in
    let r = add_remainders-value by rs s.terms values in
    (λ i. (s.constant +ℤ (by *ℤ c)) +ℤ (t i +ℤ r i))
    ∙ gather s.constant (by *ℤ c) (totals_value 0 s.totals values) (by *ℤ terms_value ts values) (remainders_value s.terms values) (by *ℤ remainders_value rs values)
    ∙ ap (λ z. sum_value s values +ℤ z) (ap (λ z. (by *ℤ c) +ℤ z) (sym (times-add by (terms_value ts values) (remainders_value rs values))) ∙ sym (times-add by c (terms_value ts values +ℤ remainders_value rs values)))
  where
    gather : (k x t y r z : ℤ) → (k +ℤ x) +ℤ ((t +ℤ y) +ℤ (r +ℤ z)) ≡ (k +ℤ (t +ℤ r)) +ℤ (x +ℤ (y +ℤ z))
    gather k x t y r z = omega (arith, ints)

pub started-value : (c : ℤ) (values : List ℤ) → sum_value (started c) values ≡ c
started-value c values = omega (arith, ints)

-- ---- sums, products, remainders

add_parts-value : (ps : List Part) (s : Sum) (values : List ℤ) → ArePartsLow ps → length s.totals ≡ 8 → sum_value (add_parts ps s) values ≡ sum_value s values +ℤ parts_value ps values
add_parts-value [] s values h l = omega (arith, ints)
add_parts-value (p ∷ ps) s values h l =
    add_parts-value ps (add_form (sign p.minus) p.added s) values h.1 (length-add_form (sign p.minus) p.added s ∙ l)
    ∙ ap (λ z. z +ℤ parts_value ps values) (add_form-value (sign p.minus) p.added s values h.0 l)
    ∙ gather (sum_value s values) (sign p.minus *ℤ value p.added values) (parts_value ps values)
  where
    gather : (x y z : ℤ) → (x +ℤ y) +ℤ z ≡ x +ℤ (y +ℤ z)
    gather x y z = omega (arith, ints)

pub sum_form-value : (ps : List Part) (values : List ℤ) → ArePartsLow ps → value (sum_form ps) values ≡ parts_value ps values
sum_form-value ps values h =
    form_of_sum-value (add_parts ps (started (pos 0))) values ∙ add_parts-value ps (started (pos 0)) values h refl ∙ ap (λ z. z +ℤ parts_value ps values) (started-value (pos 0) values) ∙ alone (parts_value ps values)
  where
    alone : (x : ℤ) → pos 0 +ℤ x ≡ x
    alone x = omega (arith, ints)

scaled_fields-value : (by : ℤ) (ts : List Term) (values : List ℤ) → terms_value (scaled_fields by ts) values ≡ by *ℤ terms_value ts values
scaled_fields-value by [] values = omega (arith, ints)
scaled_fields-value by (t ∷ ts) values =
    (λ i. times-assoc by t.coefficient (get_or values t.field (pos 0)) i +ℤ scaled_fields-value by ts values i) ∙ sym (times-add by (t.coefficient *ℤ get_or values t.field (pos 0)) (terms_value ts values))

scaled_remainders-value : (by : ℤ) (rs : Remainders) (values : List ℤ) → remainders_value (scaled_remainders by rs) values ≡ by *ℤ remainders_value rs values
scaled_remainders-value by no_remainders values = omega (arith, ints)
scaled_remainders-value by (remainder a f k rs) values =
    (λ i. times-assoc by a (modulo (value f values) k) i +ℤ scaled_remainders-value by rs values i) ∙ sym (times-add by (a *ℤ modulo (value f values) k) (remainders_value rs values))

pub product_form-value : (by : ℤ) (f : Form) (values : List ℤ) → value (product_form by f) values ≡ by *ℤ value f values
product_form-value by (form c ts rs) values = cases (int_eq by (pos 0)) refl
  where
    nothing : (x : ℤ) → value (number_form (pos 0)) values ≡ pos 0 *ℤ x
    nothing x = omega (arith, ints)

    cases : (b : Bool) → int_eq by (pos 0) ≡ b → value (cond b (number_form (pos 0)) (form (by *ℤ c) (scaled_fields by ts) (scaled_remainders by rs))) values ≡ by *ℤ value (form c ts rs) values
    cases true e = nothing (value (form c ts rs) values) ∙ ap (λ z. z *ℤ value (form c ts rs) values) (sym (int_eq-out by (pos 0) e))
    cases false e =
        (λ i. (by *ℤ c) +ℤ (scaled_fields-value by ts values i +ℤ scaled_remainders-value by rs values i))
        ∙ ap (λ z. (by *ℤ c) +ℤ z) (sym (times-add by (terms_value ts values) (remainders_value rs values)))
        ∙ sym (times-add by c (terms_value ts values +ℤ remainders_value rs values))

alone_value : (m : ℤ) → pos 0 +ℤ (pos 0 +ℤ ((pos 1 *ℤ m) +ℤ pos 0)) ≡ m
alone_value m = omega (arith, ints)

constant_alone : (c : ℤ) → c +ℤ (pos 0 +ℤ pos 0) ≡ c
constant_alone c = omega (arith, ints)

pub remainder_form-value : (f : Form) (k : ℕ) (values : List ℤ) → value (remainder_form f k) values ≡ modulo (value f values) k
remainder_form-value (form c [] no_remainders) k values = constant_alone (modulo c k) ∙ ap (λ z. modulo z k) (sym (constant_alone c))
remainder_form-value (form c (t ∷ ts) rs) k values = alone_value (modulo (value (form c (t ∷ ts) rs) values) k)
remainder_form-value (form c [] (remainder a f m rs)) k values = alone_value (modulo (value (form c [] (remainder a f m rs)) values) k)

-- ---- putting forms for fields

pub remainder_form-low : (f : Form) (k : ℕ) → AreLow (fields_of (remainder_form f k))
remainder_form-low (form c [] no_remainders) k = tt
remainder_form-low (form c (t ∷ ts) rs) k = tt
remainder_form-low (form c [] (remainder a f m rs)) k = tt

at_low : (gs : List Form) (n : ℕ) → AreFormsLow gs → AreLow (fields_of (get_or gs n (number_form (pos 0))))
at_low [] n h = tt
at_low (g ∷ gs) zero h = h.0
at_low (g ∷ gs) (suc n) h = at_low gs n h.1

at_value : (gs : List Form) (n : ℕ) (values : List ℤ) → value (get_or gs n (number_form (pos 0))) values ≡ get_or (values_of gs values) n (pos 0)
at_value [] n values = refl
at_value (g ∷ gs) zero values = refl
at_value (g ∷ gs) (suc n) values = at_value gs n values

pub length-put_fields : (ts : List Term) (gs : List Form) (s : Sum) → length (put_fields ts gs s).totals ≡ length s.totals
length-put_fields [] gs s = refl
length-put_fields (t ∷ ts) gs s = length-put_fields ts gs _ ∙ length-add_form t.coefficient (get_or gs t.field (number_form (pos 0))) s

put_fields-value : (ts : List Term) (gs : List Form) (s : Sum) (values : List ℤ) → AreFormsLow gs → length s.totals ≡ 8 → sum_value (put_fields ts gs s) values ≡ sum_value s values +ℤ terms_value ts (values_of gs values)
put_fields-value [] gs s values h l = omega (arith, ints)
put_fields-value (t ∷ ts) gs s values h l =
    let g = get_or gs t.field (number_form (pos 0)) in
    put_fields-value ts gs (add_form t.coefficient g s) values h (length-add_form t.coefficient g s ∙ l)
    ∙ ap (λ z. z +ℤ terms_value ts (values_of gs values)) (add_form-value t.coefficient g s values (at_low gs t.field h) l ∙ ap (λ z. sum_value s values +ℤ (t.coefficient *ℤ z)) (at_value gs t.field values))
    ∙ gather (sum_value s values) (t.coefficient *ℤ get_or (values_of gs values) t.field (pos 0)) (terms_value ts (values_of gs values))
  where
    gather : (x y z : ℤ) → (x +ℤ y) +ℤ z ≡ x +ℤ (y +ℤ z)
    gather x y z = omega (arith, ints)

together : (x y z : ℤ) → (x +ℤ y) +ℤ z ≡ x +ℤ (y +ℤ z)
together x y z = omega (arith, ints)

mutual
  pub subst_form-value : (f : Form) (gs : List Form) (values : List ℤ) → AreFormsLow gs → value (subst_form f gs) values ≡ value f (values_of gs values)
  subst_form-value (form c ts rs) gs values h =
      form_of_sum-value (put_remainders rs gs (put_fields ts gs (started c))) values
      ∙ put_remainders-value rs gs (put_fields ts gs (started c)) values h (length-put_fields ts gs (started c))
      ∙ ap (λ z. z +ℤ remainders_value rs (values_of gs values)) (put_fields-value ts gs (started c) values h refl ∙ ap (λ z. z +ℤ terms_value ts (values_of gs values)) (started-value c values))
      ∙ together c (terms_value ts (values_of gs values)) (remainders_value rs (values_of gs values))

  pub put_remainders-value : (rs : Remainders) (gs : List Form) (s : Sum) (values : List ℤ) → AreFormsLow gs → length s.totals ≡ 8 → sum_value (put_remainders rs gs s) values ≡ sum_value s values +ℤ remainders_value rs (values_of gs values)
  put_remainders-value no_remainders gs s values h l = omega (arith, ints)
  put_remainders-value (remainder a f k rs) gs s values h l =
      let g = remainder_form (subst_form f gs) k in
      put_remainders-value rs gs (add_form a g s) values h (length-add_form a g s ∙ l)
      ∙ ap (λ z. z +ℤ remainders_value rs (values_of gs values)) (add_form-value a g s values (remainder_form-low (subst_form f gs) k) l ∙ ap (λ z. sum_value s values +ℤ (a *ℤ z)) (remainder_form-value (subst_form f gs) k values ∙ ap (λ z. modulo z k) (subst_form-value f gs values h)))
      ∙ together (sum_value s values) (a *ℤ modulo (value f (values_of gs values)) k) (remainders_value rs (values_of gs values))
