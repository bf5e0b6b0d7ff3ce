-- Lists of terms that are made one term at a time.
use Rattle.std.proofs.Common.{◌≡◌, ◌≢◌, ℕ, zero, suc, ◌+◌, ◌*◌, ◌<◌, ◌≤◌, inl, inr, List, [], ◌∷◌, ◌++◌, length, drop, get_or, Bool, true, false, cond, refl, ap, sym, ◌∙◌, subst, arith, add-one, unsigned_abs}
use Rattle.std.proofs.Math.IntN.{ℤ, pos, ◌*ℤ◌}
use Rattle.std.proofs.lemmas.Int.{ints, unsigned_abs-mul}
use Rattle.std.specs.Ordering.{int_eq}
use Rattle.model_form.specs.Form.{Form, Remainders, no_remainders, remainder, Term}
use Rattle.model_form.specs.Sums.{scaled_fields, scaled_remainders, fields_from, without_zeros}
use Rattle.model_form.specs.Ranges.{IsOfFields, IsOfRemainders, IsCoefficient, AreFields, AreRemainders, IsApart, AreApart}
use Rattle.lin_form.specs.Within.{AreLikes}
use Rattle.lin_form.specs.declared.form.FieldTerm.{FieldTerm}
use Rattle.lin_form.specs.declared.form.RemTerm.{RemTerm}
use Rattle.lin_form.specs.Terms.{plain_fields, plain_remainders}

abbrev pub joined : Remainders → Remainders → Remainders
joined no_remainders qs = qs
joined (remainder a f k rs) qs = remainder a f k (joined rs qs)

pub joined-none : (rs : Remainders) → joined rs no_remainders ≡ rs
joined-none no_remainders = refl
joined-none (remainder a f k rs) = ap (remainder a f k) (joined-none rs)

-- ---- one term more

abbrev pub plain_field : FieldTerm → Term
plain_field t = record { field = t.field; coefficient = t.coefficient }

pub fields_push : (ts : List FieldTerm) (t : FieldTerm) (us : List Term) → plain_fields (ts ++ t ∷ []) ++ us ≡ plain_fields ts ++ (plain_field t ∷ us)
fields_push [] t us = refl
fields_push (x ∷ ts) t us = ap (λ vs. plain_field x ∷ vs) (fields_push ts t us)

pub remainders_push : (ts : List RemTerm) (t : RemTerm) (rs : Remainders) → joined (plain_remainders (ts ++ t ∷ [])) rs ≡ joined (plain_remainders ts) (remainder t.coefficient t.inner t.divisor rs)
remainders_push [] t rs = refl
remainders_push (x ∷ ts) t rs = ap (remainder x.coefficient x.inner x.divisor) (remainders_push ts t rs)

pub fields_range_push : (ts : List FieldTerm) (t : FieldTerm) → ((n : ℤ) → IsOfFields n (plain_fields ts) → IsCoefficient n) → IsCoefficient t.coefficient → (n : ℤ) → IsOfFields n (plain_fields (ts ++ t ∷ [])) → IsCoefficient n
fields_range_push [] t h c n (inl e) = subst IsCoefficient (sym e) c
fields_range_push [] t h c n (inr i) = absurd i
fields_range_push (x ∷ ts) t h c n (inl e) = h n (inl e)
fields_range_push (x ∷ ts) t h c n (inr i) = fields_range_push ts t (λ m j. h m (inr j)) c n i

pub remainders_range_push : (ts : List RemTerm) (t : RemTerm) → ((n : ℤ) → IsOfRemainders n (plain_remainders ts) → IsCoefficient n) → IsCoefficient t.coefficient → (n : ℤ) → IsOfRemainders n (plain_remainders (ts ++ t ∷ [])) → IsCoefficient n
remainders_range_push [] t h c n (inl e) = subst IsCoefficient (sym e) c
remainders_range_push [] t h c n (inr i) = absurd i
remainders_range_push (x ∷ ts) t h c n (inl e) = h n (inl e)
remainders_range_push (x ∷ ts) t h c n (inr i) = remainders_range_push ts t (λ m j. h m (inr j)) c n i

pub of_later_fields : (ts us : List Term) (n : ℤ) → IsOfFields n us → IsOfFields n (ts ++ us)
of_later_fields [] us n i = i
of_later_fields (t ∷ ts) us n i = inr (of_later_fields ts us n i)

pub of_later_remainders : (rs qs : Remainders) (n : ℤ) → IsOfRemainders n qs → IsOfRemainders n (joined rs qs)
of_later_remainders no_remainders qs n i = i
of_later_remainders (remainder a f k rs) qs n i = inr (of_later_remainders rs qs n i)

-- ---- the next term

pub scaled_fields_step : (by : ℤ) (ts : List FieldTerm) (k : ℕ) (d : FieldTerm) → k < length ts
    → scaled_fields by (plain_fields (drop k ts)) ≡ record { field = (get_or ts k d).field; coefficient = by *ℤ (get_or ts k d).coefficient } ∷ scaled_fields by (plain_fields (drop (k + 1) ts))
scaled_fields_step by ts k d h = rw (add-one k) (go ts k h)
  where
    go : (ts : List FieldTerm) (k : ℕ) → k < length ts → scaled_fields by (plain_fields (drop k ts)) ≡ record { field = (get_or ts k d).field; coefficient = by *ℤ (get_or ts k d).coefficient } ∷ scaled_fields by (plain_fields (drop (suc k) ts))
    go [] k h = absurd (omega arith)
    go (t ∷ ts) zero h = refl
    go (t ∷ ts) (suc k) h = go ts k (omega arith)

pub scaled_remainders_step : (by : ℤ) (ts : List RemTerm) (k : ℕ) (d : RemTerm) → k < length ts
    → scaled_remainders by (plain_remainders (drop k ts)) ≡ remainder (by *ℤ (get_or ts k d).coefficient) (get_or ts k d).inner (get_or ts k d).divisor (scaled_remainders by (plain_remainders (drop (k + 1) ts)))
scaled_remainders_step by ts k d h = rw (add-one k) (go ts k h)
  where
    go : (ts : List RemTerm) (k : ℕ) → k < length ts → scaled_remainders by (plain_remainders (drop k ts)) ≡ remainder (by *ℤ (get_or ts k d).coefficient) (get_or ts k d).inner (get_or ts k d).divisor (scaled_remainders by (plain_remainders (drop (suc k) ts)))
    go [] k h = absurd (omega arith)
    go (t ∷ ts) zero h = refl
    go (t ∷ ts) (suc k) h = go ts k (omega arith)

pub fields_from_step : (m : ℕ) (cs : List ℤ) (k : ℕ) → k < length cs
    → fields_from m (drop k cs) ≡ cond (int_eq (get_or cs k (pos 0)) (pos 0)) (fields_from (suc m) (drop (k + 1) cs)) (record { field = m; coefficient = get_or cs k (pos 0) } ∷ fields_from (suc m) (drop (k + 1) cs))
fields_from_step m cs k h = rw (add-one k) (go cs k h)
  where
    go : (cs : List ℤ) (k : ℕ) → k < length cs → fields_from m (drop k cs) ≡ cond (int_eq (get_or cs k (pos 0)) (pos 0)) (fields_from (suc m) (drop (suc k) cs)) (record { field = m; coefficient = get_or cs k (pos 0) } ∷ fields_from (suc m) (drop (suc k) cs))
    go [] k h = absurd (omega arith)
    go (c ∷ cs) zero h = refl
    go (c ∷ cs) (suc k) h = go cs k (omega arith)

-- ---- what the made terms are

product_not_zero : (by a : ℤ) → by ≢ pos 0 → a ≢ pos 0 → by *ℤ a ≢ pos 0
product_not_zero by a h g e =
    let p = unsigned_abs-mul by a in
    let z : unsigned_abs (by *ℤ a) ≡ 0 = ap unsigned_abs e in
    let b : 0 < unsigned_abs by = some by h in
    let c : 0 < unsigned_abs a = some a g in
    none (unsigned_abs by) (unsigned_abs a) b c (sym p ∙ z)
  where
    some : (z : ℤ) → z ≢ pos 0 → 0 < unsigned_abs z
    some z n = omega (arith, ints)

    none : (x y : ℕ) → 0 < x → 0 < y → x * y ≡ 0 → ⊥
    none (suc x) (suc y) h g e = absurd (omega arith)
    none zero y h g e = absurd (omega arith)
    none (suc x) zero h g e = absurd (omega arith)

pub scaled_fields_are : (by : ℤ) (n : ℕ) (ts : List Term) → by ≢ pos 0 → AreFields n ts → ((z : ℤ) → IsOfFields z (scaled_fields by ts) → IsCoefficient z) → AreFields n (scaled_fields by ts)
scaled_fields_are by n [] b h r = tt
scaled_fields_are by n (t ∷ ts) b h r = (h.0, h.1, product_not_zero by t.coefficient b h.2, r (by *ℤ t.coefficient) (inl refl), scaled_fields_are by (suc t.field) ts b h.4 (λ z i. r z (inr i)))

pub scaled_remainders_are : (by : ℤ) (rs : Remainders) → by ≢ pos 0 → AreRemainders rs → ((z : ℤ) → IsOfRemainders z (scaled_remainders by rs) → IsCoefficient z) → AreRemainders (scaled_remainders by rs)
scaled_remainders_are by no_remainders b h r = tt
scaled_remainders_are by (remainder a f k rs) b h r = (product_not_zero by a b h.0, r (by *ℤ a) (inl refl), h.2, h.3, scaled_remainders_are by rs b h.4 (λ z i. r z (inr i)))

scaled_apart_one : (by : ℤ) (f : Form) (k : ℕ) (rs : Remainders) → IsApart f k rs → IsApart f k (scaled_remainders by rs)
scaled_apart_one by f k no_remainders h = tt
scaled_apart_one by f k (remainder b g m rs) h = (h.0, scaled_apart_one by f k rs h.1)

pub scaled_apart : (by : ℤ) (rs : Remainders) → AreApart rs → AreApart (scaled_remainders by rs)
scaled_apart by no_remainders h = tt
scaled_apart by (remainder a f k rs) h = (scaled_apart_one by f k rs h.0, scaled_apart by rs h.1)

not_zero : (a : ℤ) → int_eq a (pos 0) ≡ false → a ≢ pos 0
not_zero a e z = let t : int_eq a (pos 0) ≡ true = grind (arith, ints) in let y : true ≡ false = sym t ∙ e in cc

pub fields_from_are : (m i : ℕ) (cs : List ℤ) → m ≤ i → i + length cs ≤ 8 → ((z : ℤ) → IsOfFields z (fields_from i cs) → IsCoefficient z) → AreFields m (fields_from i cs)
fields_from_are m i [] l h r = tt
fields_from_are m i (c ∷ cs) l h r = by (int_eq c (pos 0)) refl r (λ q. fields_from_are m (suc i) cs (omega arith) (omega arith) q) (λ q. fields_from_are (suc i) (suc i) cs (omega arith) (omega arith) q)
  where
    by : (b : Bool) → int_eq c (pos 0) ≡ b → ((z : ℤ) → IsOfFields z (cond b (fields_from (suc i) cs) (record { field = i; coefficient = c } ∷ fields_from (suc i) cs)) → IsCoefficient z)
        → (((z : ℤ) → IsOfFields z (fields_from (suc i) cs) → IsCoefficient z) → AreFields m (fields_from (suc i) cs))
        → (((z : ℤ) → IsOfFields z (fields_from (suc i) cs) → IsCoefficient z) → AreFields (suc i) (fields_from (suc i) cs))
        → AreFields m (cond b (fields_from (suc i) cs) (record { field = i; coefficient = c } ∷ fields_from (suc i) cs))
    by true e r p q = p r
    by false e r p q = (l, omega arith, not_zero c e, r c (inl refl), q (λ z j. r z (inr j)))

pub without_zeros_are : (m : ℕ) (rs : Remainders) → AreLikes m rs → ((z : ℤ) → IsOfRemainders z (without_zeros rs) → IsCoefficient z) → AreRemainders (without_zeros rs)
without_zeros_are m no_remainders h r = tt
without_zeros_are m (remainder a f k rs) h r = by (int_eq a (pos 0)) refl r (λ q. without_zeros_are m rs h.3 q)
  where
    by : (b : Bool) → int_eq a (pos 0) ≡ b → ((z : ℤ) → IsOfRemainders z (cond b (without_zeros rs) (remainder a f k (without_zeros rs))) → IsCoefficient z)
        → (((z : ℤ) → IsOfRemainders z (without_zeros rs) → IsCoefficient z) → AreRemainders (without_zeros rs))
        → AreRemainders (cond b (without_zeros rs) (remainder a f k (without_zeros rs)))
    by true e r p = p r
    by false e r p = (not_zero a e, r a (inl refl), h.1, h.2, p (λ z j. r z (inr j)))
