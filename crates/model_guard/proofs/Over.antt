-- Forms that are made of forms over the first fields are over them too.
use Rattle.std.proofs.Common.{◌≡◌, ◌≢◌, ℕ, zero, suc, ◌+◌, ◌<◌, ◌≤◌, List, [], ◌∷◌, get_or, Bool, true, false, cond, refl, ◌∙◌, subst, arith}
use Rattle.std.specs.Prelude.{nat_lt}
use Rattle.std.proofs.Math.IntN.{ℤ, pos, ◌+ℤ◌, ◌*ℤ◌}
use Rattle.std.proofs.Math.ListN.{set}
use Rattle.std.specs.Ordering.{int_eq}
use Rattle.std.proofs.lemmas.Bool.Decides.{nat_tests}
use Rattle.std.proofs.lemmas.List.{get_or-set_other}
use Rattle.model_tree.specs.Limits.{most_fields}
use Rattle.model_form.specs.Form.{Form, form, Remainders, no_remainders, remainder, Term, fields_of}
use Rattle.model_form.specs.Over.{AreBelow, IsOver, AreOver}
use Rattle.model_form.specs.Sums.{Sum, Part, started, number_form, add_fields, add_like, add_remainders, add_form, add_parts, fields_from, without_zeros, sign, is_like, sum_form, product_form, scaled_fields, scaled_remainders, remainder_form, subst_form, put_fields, put_remainders}
use Rattle.model_form.specs.Sums as sums
use Rattle.model_form.specs.Meaning.{AreLow}

abbrev pub ArePartsOver : ℕ → List Part → Type 0
ArePartsOver n [] = Unit {0}
ArePartsOver n (p ∷ ps) = IsOver n p.added × ArePartsOver n ps

abbrev pub AreFormsOver : ℕ → List Form → Type 0
AreFormsOver n [] = Unit {0}
AreFormsOver n (g ∷ gs) = IsOver n g × AreFormsOver n gs

pub below_low : (n : ℕ) → n ≤ most_fields → (ts : List Term) → AreBelow n ts → AreLow ts
below_low n few [] h = tt
below_low n few (t ∷ ts) h = (omega (arith, few, h.0), below_low n few ts h.1)

pub over_low : (n : ℕ) → n ≤ most_fields → (f : Form) → IsOver n f → AreLow (fields_of f)
over_low n few (form c ts rs) h = below_low n few ts h.0

module _ (n : ℕ) where
  -- the coefficients from n on are 0
  abbrev IsZeroFrom : List ℤ → Type 0
  IsZeroFrom totals = (k : ℕ) → n ≤ k → get_or totals k (pos 0) ≡ pos 0

  add_fields_zero : (by : ℤ) (ts : List Term) (totals : List ℤ) → AreBelow n ts → IsZeroFrom totals → IsZeroFrom (add_fields by ts totals)
  add_fields_zero by [] totals h z = z
  add_fields_zero by (t ∷ ts) totals h z =
      add_fields_zero by ts (set totals t.field (get_or totals t.field (pos 0) +ℤ (by *ℤ t.coefficient))) h.1 (λ k l.
      let apart : k ≢ t.field = λ e. absurd (omega (arith, h.0, l, e)) in
      get_or-set_other totals t.field k (get_or totals t.field (pos 0) +ℤ (by *ℤ t.coefficient)) (pos 0) apart ∙ z k l)

  not_zero : (c : ℤ) → c ≡ pos 0 → int_eq c (pos 0) ≡ false → ⊥
  not_zero c e h = let no : int_eq (pos 0) (pos 0) ≡ false = subst (λ z. int_eq z (pos 0) ≡ false) e h in cc

  kept_below : (m : ℕ) (cs : List ℤ) → ((k : ℕ) → n ≤ m + k → get_or cs k (pos 0) ≡ pos 0) → AreBelow n (fields_from m cs)
  kept_below m [] z = tt
  kept_below m (c ∷ cs) z = by (int_eq c (pos 0)) refl (kept_below (suc m) cs (λ k l. z (suc k) (omega (arith, l))))
    where
      low : (b : Bool) → nat_lt m n ≡ b → int_eq c (pos 0) ≡ false → m < n
      low true t e = grind (arith, nat_tests)
      low false t e = let high : n ≤ m + 0 = grind (arith, nat_tests) in let none : c ≡ pos 0 = z 0 high in absurd (not_zero c none e)

      by : (b : Bool) → int_eq c (pos 0) ≡ b → AreBelow n (fields_from (suc m) cs) → AreBelow n (cond b (fields_from (suc m) cs) (record { field = m; coefficient = c } ∷ fields_from (suc m) cs))
      by true e rest = rest
      by false e rest = (low (nat_lt m n) refl e, rest)

  kept_over : (rs : Remainders) → AreOver n rs → AreOver n (without_zeros rs)
  kept_over no_remainders h = tt
  kept_over (remainder a f k rs) h = by (int_eq a (pos 0)) (kept_over rs h.1)
    where
      by : (b : Bool) → AreOver n (without_zeros rs) → AreOver n (cond b (without_zeros rs) (remainder a f k (without_zeros rs)))
      by true rest = rest
      by false rest = (h.0, rest)

  like_over : (c : ℤ) (g : Form) (m : ℕ) (rs : Remainders) → IsOver n g → AreOver n rs → AreOver n (add_like c g m rs)
  like_over c g m no_remainders o h = (o, tt)
  like_over c g m (remainder a f k rs) o h = by (is_like f k g m) (like_over c g m rs o h.1)
    where
      by : (b : Bool) → AreOver n (add_like c g m rs) → AreOver n (cond b (remainder (a +ℤ c) f k rs) (remainder a f k (add_like c g m rs)))
      by true rest = h
      by false rest = (h.0, rest)

  remainders_over : (by : ℤ) (rs terms : Remainders) → AreOver n rs → AreOver n terms → AreOver n (add_remainders by rs terms)
  remainders_over by no_remainders terms o h = h
  remainders_over by (remainder a f k rs) terms o h = remainders_over by rs (add_like (by *ℤ a) f k terms) o.1 (like_over (by *ℤ a) f k terms o.0 h)

  record IsSumOver (s : Sum) : Type 0 where
    pub zero_from : IsZeroFrom s.totals
    pub terms : AreOver n s.terms

  started_over : (c : ℤ) → IsSumOver (started c)
  started_over c = record { zero_from = λ k l. zeros k; terms = tt }
    where
      zeros : (k : ℕ) → get_or (started c).totals k (pos 0) ≡ pos 0
      zeros zero = refl
      zeros (suc zero) = refl
      zeros (suc (suc zero)) = refl
      zeros (suc (suc (suc zero))) = refl
      zeros (suc (suc (suc (suc zero)))) = refl
      zeros (suc (suc (suc (suc (suc zero))))) = refl
      zeros (suc (suc (suc (suc (suc (suc zero)))))) = refl
      zeros (suc (suc (suc (suc (suc (suc (suc zero))))))) = refl
      zeros (suc (suc (suc (suc (suc (suc (suc (suc k)))))))) = refl

  form_more : (by : ℤ) (f : Form) (s : Sum) → IsOver n f → IsSumOver s → IsSumOver (add_form by f s)
  form_more by (form c ts rs) s o h = record { zero_from = add_fields_zero by ts s.totals o.0 h.zero_from; terms = remainders_over by rs s.terms o.1 h.terms }

  form_over : (s : Sum) → IsSumOver s → IsOver n (sums.form_of_sum s)
  form_over s h = (kept_below 0 s.totals (λ k l. h.zero_from k (omega (arith, l))), kept_over s.terms h.terms)

  parts_more : (ps : List Part) (s : Sum) → ArePartsOver n ps → IsSumOver s → IsSumOver (add_parts ps s)
  parts_more [] s o h = h
  parts_more (p ∷ ps) s o h = parts_more ps (add_form (sign p.minus) p.added s) o.1 (form_more (sign p.minus) p.added s o.0 h)

  pub sum_over : (ps : List Part) → ArePartsOver n ps → IsOver n (sum_form ps)
  sum_over ps o = form_over (add_parts ps (started (pos 0))) (parts_more ps (started (pos 0)) o (started_over (pos 0)))

  scaled_below : (by : ℤ) (ts : List Term) → AreBelow n ts → AreBelow n (scaled_fields by ts)
  scaled_below by [] h = tt
  scaled_below by (t ∷ ts) h = (h.0, scaled_below by ts h.1)

  scaled_over : (by : ℤ) (rs : Remainders) → AreOver n rs → AreOver n (scaled_remainders by rs)
  scaled_over by no_remainders h = tt
  scaled_over by (remainder a f k rs) h = (h.0, scaled_over by rs h.1)

  pub product_over : (by : ℤ) (f : Form) → IsOver n f → IsOver n (product_form by f)
  product_over by (form c ts rs) h = cases (int_eq by (pos 0))
    where
      cases : (b : Bool) → IsOver n (cond b (number_form (pos 0)) (form (by *ℤ c) (scaled_fields by ts) (scaled_remainders by rs)))
      cases true = (tt, tt)
      cases false = (scaled_below by ts h.0, scaled_over by rs h.1)

  pub remainder_over : (f : Form) (k : ℕ) → IsOver n f → IsOver n (remainder_form f k)
  remainder_over (form c [] no_remainders) k h = (tt, tt)
  remainder_over (form c (t ∷ ts) rs) k h = (tt, (h, tt))
  remainder_over (form c [] (remainder a f m rs)) k h = (tt, (h, tt))

  at_over : (gs : List Form) (k : ℕ) → AreFormsOver n gs → IsOver n (get_or gs k (number_form (pos 0)))
  at_over [] k h = (tt, tt)
  at_over (g ∷ gs) zero h = h.0
  at_over (g ∷ gs) (suc k) h = at_over gs k h.1

  put_more : (ts : List Term) (gs : List Form) (s : Sum) → AreFormsOver n gs → IsSumOver s → IsSumOver (put_fields ts gs s)
  put_more [] gs s o h = h
  put_more (t ∷ ts) gs s o h = let g = get_or gs t.field (number_form (pos 0)) in put_more ts gs (add_form t.coefficient g s) o (form_more t.coefficient g s (at_over gs t.field o) h)

  mutual
    pub subst_over : (f : Form) (gs : List Form) → AreFormsOver n gs → IsOver n (subst_form f gs)
    subst_over (form c ts rs) gs o = form_over (put_remainders rs gs (put_fields ts gs (started c))) (put_all rs gs (put_fields ts gs (started c)) o (put_more ts gs (started c) o (started_over c)))

    put_all : (rs : Remainders) (gs : List Form) (s : Sum) → AreFormsOver n gs → IsSumOver s → IsSumOver (put_remainders rs gs s)
    put_all no_remainders gs s o h = h
    put_all (remainder a f k rs) gs s o h = let g = remainder_form (subst_form f gs) k in put_all rs gs (add_form a g s) o (form_more a g s (remainder_over (subst_form f gs) k (subst_over f gs o)) h)
