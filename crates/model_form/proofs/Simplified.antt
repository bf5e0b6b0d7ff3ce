-- A form made simpler has the form's value.
use Rattle.std.proofs.Common.{◌≡◌, ℕ, suc, ◌+◌, ◌<◌, ◌≤◌, ◌%◌, ◌==◌, List, [], ◌∷◌, length, get_or, Bool, true, false, cond, refl, ap, sym, ◌∙◌, arith}
use Rattle.std.proofs.Math.IntN.{ℤ, pos, ◌+ℤ◌, ◌*ℤ◌}
use Rattle.std.proofs.lemmas.Int.{ints}
use Rattle.std.specs.Ordering.{int_eq}
use Rattle.math_int.proofs.Laws.{times-add, times-assoc}
use Rattle.model_form.specs.Form.{Form, form, Remainders, no_remainders, remainder, Term, value, remainders_value, terms_value, modulo}
use Rattle.model_form.specs.Sums.{Sum, started, form_of_sum, fields_from, without_zeros, is_like, add_like, add_remainders, add_form, remainder_form}
use Rattle.model_form.specs.Simpler.{add_outer, add_term, add_open, add_all_open, reduced, reduced_totals, reduced_terms, inside, outer, simpler_sum, add_simpler, simpler_form}
use Rattle.model_form.specs.Meaning.{AreLow}
use Rattle.model_form.specs.Over.{AreBelow, IsOver, AreOver, IsDivided, AreDivided}
use Rattle.model_form.proofs.Modulo.{modulo_twice, modulo_sum, modulo_product, modulo_of_multiple}
use Rattle.model_form.proofs.Values.{totals_value, sum_value, add_fields-value, length-add_fields, length-add_form, add_like-value, add_form-value, form_of_sum-value, started-value, remainder_form-value, remainder_form-low}

low_below : (ts : List Term) → AreBelow 8 ts → AreLow ts
low_below [] h = tt
low_below (t ∷ ts) h = (h.0, low_below ts h.1)

-- ---- a number more, and how the value changes

add_outer-value : (by c : ℤ) (ts : List Term) (s : Sum) (values : List ℤ) → AreLow ts → length s.totals ≡ 8 → sum_value (add_outer by c ts s) values ≡ sum_value s values +ℤ (by *ℤ (c +ℤ terms_value ts values))
add_outer-value by c ts s values h l =
    (λ i. (s.constant +ℤ (by *ℤ c)) +ℤ (add_fields-value by ts s.totals values h l i +ℤ remainders_value s.terms values))
    ∙ gather s.constant (by *ℤ c) (totals_value 0 s.totals values) (by *ℤ terms_value ts values) (remainders_value s.terms values)
    ∙ ap (λ z. sum_value s values +ℤ z) (sym (times-add by c (terms_value ts values)))
  where
    gather : (k x t y r : ℤ) → (k +ℤ x) +ℤ ((t +ℤ y) +ℤ r) ≡ (k +ℤ (t +ℤ r)) +ℤ (x +ℤ y)
    gather k x t y r = omega (arith, ints)

add_term-value : (c : ℤ) (f : Form) (k : ℕ) (s : Sum) (values : List ℤ) → sum_value (add_term c f k s) values ≡ sum_value s values +ℤ (c *ℤ modulo (value f values) k)
add_term-value c f k s values =
    ap (λ z. s.constant +ℤ (totals_value 0 s.totals values +ℤ z)) (add_like-value c f k s.terms values)
    ∙ gather s.constant (totals_value 0 s.totals values) (remainders_value s.terms values) (c *ℤ modulo (value f values) k)
  where
    gather : (k t r x : ℤ) → k +ℤ (t +ℤ (r +ℤ x)) ≡ (k +ℤ (t +ℤ r)) +ℤ x
    gather k t r x = omega (arith, ints)

length-add_outer : (by c : ℤ) (ts : List Term) (s : Sum) → length (add_outer by c ts s).totals ≡ length s.totals
length-add_outer by c ts s = length-add_fields by ts s.totals

-- ---- remainders that give way, as they count in a remainder by m

length-one : (m : ℕ) (by a : ℤ) (f : Form) (k : ℕ) (s : Sum) (b : Bool) → length (add_open m (by *ℤ a) f s).totals ≡ length s.totals → length (cond b (add_open m (by *ℤ a) f s) (add_term (by *ℤ a) f k s)).totals ≡ length s.totals
length-one m by a f k s true e = e
length-one m by a f k s false e = refl

mutual
  pub length-add_open : (m : ℕ) (by : ℤ) (f : Form) (s : Sum) → length (add_open m by f s).totals ≡ length s.totals
  length-add_open m by (form c ts rs) s = length-add_all_open m by rs (add_outer by c ts s) ∙ length-add_outer by c ts s

  pub length-add_all_open : (m : ℕ) (by : ℤ) (rs : Remainders) (s : Sum) → length (add_all_open m by rs s).totals ≡ length s.totals
  length-add_all_open m by no_remainders s = refl
  length-add_all_open m by (remainder a f k rs) s = length-add_all_open m by rs _ ∙ length-one m by a f k s (k % m == 0) (length-add_open m (by *ℤ a) f s)

module _ (m : ℕ) (some : 0 < m) (values : List ℤ) where
  -- x and y have one remainder by m
  abbrev Alike : ℤ → ℤ → Type 0
  Alike x y = modulo x m ≡ modulo y m

  alike_open : (by a : ℤ) (f : Form) (k : ℕ) (s : Sum) (b : Bool) → (k % m == 0) ≡ b → 0 < k
      → Alike (sum_value (add_open m (by *ℤ a) f s) values) (sum_value s values +ℤ ((by *ℤ a) *ℤ value f values))
      → Alike (sum_value (cond b (add_open m (by *ℤ a) f s) (add_term (by *ℤ a) f k s)) values) (sum_value s values +ℤ (by *ℤ (a *ℤ modulo (value f values) k)))
  alike_open by a f k s false e p h = ap (λ z. modulo z m) (add_term-value (by *ℤ a) f k s values ∙ ap (λ z. sum_value s values +ℤ z) (times-assoc by a (modulo (value f values) k)))
  alike_open by a f k s true e p h =
      let v = value f values in
      let same : modulo v m ≡ modulo (modulo v k) m = sym (modulo_of_multiple m k v some p e) in
      let c : modulo (v *ℤ (by *ℤ a)) m ≡ modulo (modulo v k *ℤ (by *ℤ a)) m = modulo_product m v (modulo v k) (by *ℤ a) some same in
      let x : v *ℤ (by *ℤ a) ≡ (by *ℤ a) *ℤ v = omega (arith, ints) in
      let y : modulo v k *ℤ (by *ℤ a) ≡ by *ℤ (a *ℤ modulo v k) = turned (modulo v k) (by *ℤ a) ∙ times-assoc by a (modulo v k) in
      h ∙ modulo_sum m (sum_value s values) (sum_value s values) ((by *ℤ a) *ℤ v) (by *ℤ (a *ℤ modulo v k)) some refl (sym (ap (λ z. modulo z m) x) ∙ c ∙ ap (λ z. modulo z m) y)
    where
      turned : (x y : ℤ) → x *ℤ y ≡ y *ℤ x
      turned x y = omega (arith, ints)

  mutual
    add_open-value : (by : ℤ) (f : Form) (s : Sum) → IsOver 8 f → IsDivided f → length s.totals ≡ 8 → Alike (sum_value (add_open m by f s) values) (sum_value s values +ℤ (by *ℤ value f values))
    add_open-value by (form c ts rs) s h d l =
        add_all_open-value by rs (add_outer by c ts s) h.1 d (length-add_outer by c ts s ∙ l)
        ∙ ap (λ z. modulo z m) (ap (λ z. z +ℤ (by *ℤ remainders_value rs values)) (add_outer-value by c ts s values (low_below ts h.0) l)
        ∙ gather (sum_value s values) (by *ℤ (c +ℤ terms_value ts values)) (by *ℤ remainders_value rs values)
        ∙ ap (λ z. sum_value s values +ℤ z) (sym (times-add by (c +ℤ terms_value ts values) (remainders_value rs values)) ∙ ap (λ z. by *ℤ z) (turned c (terms_value ts values) (remainders_value rs values))))
      where
        gather : (x y z : ℤ) → (x +ℤ y) +ℤ z ≡ x +ℤ (y +ℤ z)
        gather x y z = omega (arith, ints)

        turned : (x y z : ℤ) → (x +ℤ y) +ℤ z ≡ x +ℤ (y +ℤ z)
        turned x y z = omega (arith, ints)

    add_all_open-value : (by : ℤ) (rs : Remainders) (s : Sum) → AreOver 8 rs → AreDivided rs → length s.totals ≡ 8 → Alike (sum_value (add_all_open m by rs s) values) (sum_value s values +ℤ (by *ℤ remainders_value rs values))
    add_all_open-value by no_remainders s h d l = ap (λ z. modulo z m) (none (sum_value s values) by)
      where
        none : (x b : ℤ) → x ≡ x +ℤ (b *ℤ pos 0)
        none x b = omega (arith, ints)
    add_all_open-value by (remainder a f k rs) s h d l =
        let t = cond (k % m == 0) (add_open m (by *ℤ a) f s) (add_term (by *ℤ a) f k s) in
        let first = alike_open by a f k s (k % m == 0) refl d.0 (add_open-value (by *ℤ a) f s h.0 d.1 l) in
        let rest = add_all_open-value by rs t h.1 d.2 (length-one m by a f k s (k % m == 0) (length-add_open m (by *ℤ a) f s) ∙ l) in
        rest
        ∙ modulo_sum m (sum_value t values) (sum_value s values +ℤ (by *ℤ (a *ℤ modulo (value f values) k))) (by *ℤ remainders_value rs values) (by *ℤ remainders_value rs values) some first refl
        ∙ ap (λ z. modulo z m) (gather (sum_value s values) (by *ℤ (a *ℤ modulo (value f values) k)) (by *ℤ remainders_value rs values) ∙ ap (λ z. sum_value s values +ℤ z) (sym (times-add by (a *ℤ modulo (value f values) k) (remainders_value rs values))))
      where
        gather : (x y z : ℤ) → (x +ℤ y) +ℤ z ≡ x +ℤ (y +ℤ z)
        gather x y z = omega (arith, ints)

  -- ---- remainders of coefficients

  reduced_totals-value : (n : ℕ) (cs : List ℤ) → Alike (totals_value n (reduced_totals m cs) values) (totals_value n cs values)
  reduced_totals-value n [] = refl
  reduced_totals-value n (c ∷ cs) =
      let v = get_or values n (pos 0) in
      modulo_sum m (modulo c m *ℤ v) (c *ℤ v) (totals_value (suc n) (reduced_totals m cs) values) (totals_value (suc n) cs values) some (modulo_product m (modulo c m) c v some (modulo_twice m c some)) (reduced_totals-value (suc n) cs)

  reduced_terms-value : (rs : Remainders) → Alike (remainders_value (reduced_terms m rs) values) (remainders_value rs values)
  reduced_terms-value no_remainders = refl
  reduced_terms-value (remainder a f k rs) =
      let v = modulo (value f values) k in
      modulo_sum m (modulo a m *ℤ v) (a *ℤ v) (remainders_value (reduced_terms m rs) values) (remainders_value rs values) some (modulo_product m (modulo a m) a v some (modulo_twice m a some)) (reduced_terms-value rs)

  reduced-value : (s : Sum) → Alike (sum_value (reduced m s) values) (sum_value s values)
  reduced-value s =
      modulo_sum m (modulo s.constant m) s.constant _ _ some (modulo_twice m s.constant some)
      (modulo_sum m (totals_value 0 (reduced_totals m s.totals) values) (totals_value 0 s.totals values) (remainders_value (reduced_terms m s.terms) values) (remainders_value s.terms values) some (reduced_totals-value 0 s.totals) (reduced_terms-value s.terms))

  inside-value : (s : Sum) → AreOver 8 s.terms → AreDivided s.terms → length s.totals ≡ 8 → Alike (sum_value (inside m s) values) (sum_value s values)
  inside-value s h d l =
      reduced-value (add_all_open m (pos 1) s.terms (outer s))
      ∙ add_all_open-value (pos 1) s.terms (outer s) h d l
      ∙ ap (λ z. modulo z m) (whole s.constant (totals_value 0 s.totals values) (remainders_value s.terms values))
    where
      whole : (c t r : ℤ) → (c +ℤ (t +ℤ pos 0)) +ℤ (pos 1 *ℤ r) ≡ c +ℤ (t +ℤ r)
      whole c t r = omega (arith, ints)

-- ---- fields and divisors of what is gathered

-- the terms are over the eight fields, and their divisors are at least 1
abbrev Fine : Remainders → Type 0
Fine rs = AreOver 8 rs × AreDivided rs

add_like-fine : (c : ℤ) (g : Form) (m : ℕ) (rs : Remainders) → IsOver 8 g → IsDivided g → 0 < m → Fine rs → Fine (add_like c g m rs)
add_like-fine c g m no_remainders o d p h = ((o, tt), (p, d, tt))
add_like-fine c g m (remainder a f k rs) o d p h = by (is_like f k g m) (add_like-fine c g m rs o d p (h.0.1, h.1.2))
  where
    by : (b : Bool) → Fine (add_like c g m rs) → Fine (cond b (remainder (a +ℤ c) f k rs) (remainder a f k (add_like c g m rs)))
    by true r = h
    by false r = ((h.0.0, r.0), (h.1.0, h.1.1, r.1))

add_remainders-fine : (by : ℤ) (rs terms : Remainders) → Fine rs → Fine terms → Fine (add_remainders by rs terms)
add_remainders-fine by no_remainders terms h g = g
add_remainders-fine by (remainder a f k rs) terms h g = add_remainders-fine by rs (add_like (by *ℤ a) f k terms) (h.0.1, h.1.2) (add_like-fine (by *ℤ a) f k terms h.0.0 h.1.1 h.1.0 g)

one_fine : (m : ℕ) (by a : ℤ) (f : Form) (k : ℕ) (s : Sum) (b : Bool) → Fine (add_open m (by *ℤ a) f s).terms → Fine (add_like (by *ℤ a) f k s.terms) → Fine (cond b (add_open m (by *ℤ a) f s) (add_term (by *ℤ a) f k s)).terms
one_fine m by a f k s true x y = x
one_fine m by a f k s false x y = y

mutual
  add_open-fine : (m : ℕ) (by : ℤ) (f : Form) (s : Sum) → IsOver 8 f → IsDivided f → Fine s.terms → Fine (add_open m by f s).terms
  add_open-fine m by (form c ts rs) s o d h = add_all_open-fine m by rs (add_outer by c ts s) (o.1, d) h

  add_all_open-fine : (m : ℕ) (by : ℤ) (rs : Remainders) (s : Sum) → Fine rs → Fine s.terms → Fine (add_all_open m by rs s).terms
  add_all_open-fine m by no_remainders s g h = h
  add_all_open-fine m by (remainder a f k rs) s g h = add_all_open-fine m by rs _ (g.0.1, g.1.2) (one_fine m by a f k s (k % m == 0) (add_open-fine m (by *ℤ a) f s g.0.0 g.1.1 h) (add_like-fine (by *ℤ a) f k s.terms g.0.0 g.1.1 g.1.0 h))

reduced_terms-fine : (m : ℕ) (rs : Remainders) → Fine rs → Fine (reduced_terms m rs)
reduced_terms-fine m no_remainders h = h
reduced_terms-fine m (remainder a f k rs) h = let r = reduced_terms-fine m rs (h.0.1, h.1.2) in ((h.0.0, r.0), (h.1.0, h.1.1, r.1))

without_zeros-fine : (rs : Remainders) → Fine rs → Fine (without_zeros rs)
without_zeros-fine no_remainders h = h
without_zeros-fine (remainder a f k rs) h = by (int_eq a (pos 0)) (without_zeros-fine rs (h.0.1, h.1.2))
  where
    by : (b : Bool) → Fine (without_zeros rs) → Fine (cond b (without_zeros rs) (remainder a f k (without_zeros rs)))
    by true r = r
    by false r = ((h.0.0, r.0), (h.1.0, h.1.1, r.1))

fields_from-below : (n : ℕ) (cs : List ℤ) → n + length cs ≤ 8 → AreBelow 8 (fields_from n cs)
fields_from-below n [] l = tt
fields_from-below n (c ∷ cs) l = by (int_eq c (pos 0)) (fields_from-below (suc n) cs (omega arith))
  where
    by : (b : Bool) → AreBelow 8 (fields_from (suc n) cs) → AreBelow 8 (cond b (fields_from (suc n) cs) (record { field = n; coefficient = c } ∷ fields_from (suc n) cs))
    by true r = r
    by false r = (omega arith, r)

form_of_sum-fine : (s : Sum) → length s.totals ≡ 8 → Fine s.terms → IsOver 8 (form_of_sum s) × IsDivided (form_of_sum s)
form_of_sum-fine s l h = let r = without_zeros-fine s.terms h in ((fields_from-below 0 s.totals (omega arith), r.0), r.1)

remainder_form-fine : (f : Form) (k : ℕ) → 0 < k → IsOver 8 f → IsDivided f → IsOver 8 (remainder_form f k) × IsDivided (remainder_form f k)
remainder_form-fine (form c [] no_remainders) k p o d = ((tt, tt), tt)
remainder_form-fine (form c (t ∷ ts) rs) k p o d = ((tt, (o, tt)), (p, d, tt))
remainder_form-fine (form c [] (remainder a f m rs)) k p o d = ((tt, (o, tt)), (p, d, tt))

add_form-fine : (by : ℤ) (f : Form) (s : Sum) → IsOver 8 f → IsDivided f → Fine s.terms → Fine (add_form by f s).terms
add_form-fine by (form c ts rs) s o d h = add_remainders-fine by rs s.terms (o.1, d) h

pub length-reduced : (m : ℕ) (cs : List ℤ) → length (reduced_totals m cs) ≡ length cs
length-reduced m [] = refl
length-reduced m (c ∷ cs) = ap suc (length-reduced m cs)

length-inside : (m : ℕ) (s : Sum) → length (inside m s).totals ≡ length s.totals
length-inside m s = length-reduced m _ ∙ length-add_all_open m (pos 1) s.terms (outer s)

inside-fine : (m : ℕ) (s : Sum) → Fine s.terms → Fine (inside m s).terms
inside-fine m s h = reduced_terms-fine m _ (add_all_open-fine m (pos 1) s.terms (outer s) h (tt, tt))

mutual
  pub length-simpler : (f : Form) → length (simpler_sum f).totals ≡ 8
  length-simpler (form c ts rs) = length-add_simpler rs (add_outer (pos 1) (pos 0) ts (started c)) ∙ length-add_outer (pos 1) (pos 0) ts (started c)

  pub length-add_simpler : (rs : Remainders) (s : Sum) → length (add_simpler rs s).totals ≡ length s.totals
  length-add_simpler no_remainders s = refl
  length-add_simpler (remainder a f k rs) s = length-add_simpler rs _ ∙ length-add_form a (remainder_form (form_of_sum (inside k (simpler_sum f))) k) s

part_fine : (f : Form) (k : ℕ) → 0 < k → length (simpler_sum f).totals ≡ 8 → Fine (simpler_sum f).terms → IsOver 8 (remainder_form (form_of_sum (inside k (simpler_sum f))) k) × IsDivided (remainder_form (form_of_sum (inside k (simpler_sum f))) k)
part_fine f k p l h =
    let inner = form_of_sum-fine (inside k (simpler_sum f)) (length-inside k (simpler_sum f) ∙ l) (inside-fine k (simpler_sum f) h) in
    remainder_form-fine (form_of_sum (inside k (simpler_sum f))) k p inner.0 inner.1

mutual
  simpler-fine : (f : Form) → IsOver 8 f → IsDivided f → Fine (simpler_sum f).terms
  simpler-fine (form c ts rs) o d = add_simpler-fine rs (add_outer (pos 1) (pos 0) ts (started c)) (o.1, d) (tt, tt)

  add_simpler-fine : (rs : Remainders) (s : Sum) → Fine rs → Fine s.terms → Fine (add_simpler rs s).terms
  add_simpler-fine no_remainders s g h = h
  add_simpler-fine (remainder a f k rs) s g h =
      let part = part_fine f k g.1.0 (length-simpler f) (simpler-fine f g.0.0 g.1.1) in
      add_simpler-fine rs _ (g.0.1, g.1.2) (add_form-fine a (remainder_form (form_of_sum (inside k (simpler_sum f))) k) s part.0 part.1 h)

-- ---- the value

part-value : (f : Form) (k : ℕ) (values : List ℤ) → IsOver 8 f → IsDivided f → 0 < k → sum_value (simpler_sum f) values ≡ value f values → value (remainder_form (form_of_sum (inside k (simpler_sum f))) k) values ≡ modulo (value f values) k
part-value f k values o d p e =
    let fine = simpler-fine f o d in
    remainder_form-value (form_of_sum (inside k (simpler_sum f))) k values
    ∙ ap (λ z. modulo z k) (form_of_sum-value (inside k (simpler_sum f)) values)
    ∙ inside-value k p values (simpler_sum f) fine.0 fine.1 (length-simpler f)
    ∙ ap (λ z. modulo z k) e

mutual
  simpler_sum-value : (f : Form) (values : List ℤ) → IsOver 8 f → IsDivided f → sum_value (simpler_sum f) values ≡ value f values
  simpler_sum-value (form c ts rs) values o d =
      add_simpler-value rs (add_outer (pos 1) (pos 0) ts (started c)) values (o.1, d) (length-add_outer (pos 1) (pos 0) ts (started c))
      ∙ ap (λ z. z +ℤ remainders_value rs values) (add_outer-value (pos 1) (pos 0) ts (started c) values (low_below ts o.0) refl ∙ ap (λ z. z +ℤ (pos 1 *ℤ (pos 0 +ℤ terms_value ts values))) (started-value c values))
      ∙ whole c (terms_value ts values) (remainders_value rs values)
    where
      whole : (x t r : ℤ) → (x +ℤ (pos 1 *ℤ (pos 0 +ℤ t))) +ℤ r ≡ x +ℤ (t +ℤ r)
      whole x t r = omega (arith, ints)

  add_simpler-value : (rs : Remainders) (s : Sum) (values : List ℤ) → Fine rs → length s.totals ≡ 8 → sum_value (add_simpler rs s) values ≡ sum_value s values +ℤ remainders_value rs values
  add_simpler-value no_remainders s values h l = omega (arith, ints)
  add_simpler-value (remainder a f k rs) s values h l =
      let g = remainder_form (form_of_sum (inside k (simpler_sum f))) k in
      add_simpler-value rs (add_form a g s) values (h.0.1, h.1.2) (length-add_form a g s ∙ l)
      ∙ ap (λ z. z +ℤ remainders_value rs values) (add_form-value a g s values (remainder_form-low (form_of_sum (inside k (simpler_sum f))) k) l ∙ ap (λ z. sum_value s values +ℤ (a *ℤ z)) (part-value f k values h.0.0 h.1.1 h.1.0 (simpler_sum-value f values h.0.0 h.1.1)))
      ∙ gather (sum_value s values) (a *ℤ modulo (value f values) k) (remainders_value rs values)
    where
      gather : (x y z : ℤ) → (x +ℤ y) +ℤ z ≡ x +ℤ (y +ℤ z)
      gather x y z = omega (arith, ints)

pub simpler_form-value : (f : Form) (values : List ℤ) → IsOver 8 f → IsDivided f → value (simpler_form f) values ≡ value f values
simpler_form-value f values o d = form_of_sum-value (simpler_sum f) values ∙ simpler_sum-value f values o d
