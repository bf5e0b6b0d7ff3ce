-- The steps of the loops that make terms.
use Rattle.std.proofs.Common.{◌≡◌, ◌≢◌, ℕ, suc, ◌+◌, ◌<◌, inl, List, [], ◌∷◌, ◌++◌, length, drop, get_or, Bool, true, false, cond, refl, ap, sym, ◌∙◌, subst, arith, add-one}
use Rattle.std.proofs.Math.IntN.{ℤ, pos, ◌*ℤ◌}
use Rattle.std.proofs.lemmas.Int.{ints, to_z-of_z}
use Rattle.std.specs.Int.{w64, w128}
use Rattle.std.proofs.Common.{to_z, of_z, unsigned_abs, ◌^◌, ◌≤◌, lit≤}
use Rattle.lin_form.proofs.Evaluating.{fits_64, fits_128, small_product}
use Rattle.std.specs.Ordering.{int_eq}
use Rattle.model_form.specs.Form.{Remainders, remainder, Term}
use Rattle.model_form.specs.Sums.{scaled_fields, scaled_remainders, fields_from, without_zeros}
use Rattle.model_tree.specs.Range.{IsLabelNumber}
use Rattle.model_form.specs.Ranges.{IsOfFields, IsOfRemainders, IsCoefficient}
use Rattle.lin_form.specs.declared.form.FieldTerm.{FieldTerm}
use Rattle.lin_form.specs.declared.form.RemTerm.{RemTerm}
use Rattle.lin_form.specs.declared.sum.Like.{Like}
use Rattle.lin_form.specs.declared.stop.FormStop.{FormStop}
use Rattle.lin_form.specs.declared.stop.FormStop.TheVariants.{Range}
use Rattle.lin_form.specs.Terms.{plain_fields, plain_remainders}
use Rattle.lin_form.specs.Gathered.{plain_likes}
use Rattle.lin_form.specs.Stops.{StopsAt}
use Rattle.lin_form.proofs.Joined.{joined, fields_push, remainders_push, of_later_fields, of_later_remainders, scaled_fields_step, scaled_remainders_step, fields_from_step}

pub stops_by : (IsOut : ℤ → Type 0) (e : FormStop) (n : ℤ) → e ≡ Range n → IsOut n → StopsAt IsOut e
stops_by IsOut e n p h = subst (StopsAt IsOut) (sym p) h

is_zero : (c : ℤ) → c ≡ pos 0 → int_eq c (pos 0) ≡ true
is_zero c e = grind (arith, ints)

is_not_zero : (c : ℤ) → c ≢ pos 0 → int_eq c (pos 0) ≡ false
is_not_zero c n = by (int_eq c (pos 0)) refl
  where
    out : int_eq c (pos 0) ≡ true → c ≡ pos 0
    out e = grind (arith, ints)

    by : (b : Bool) → int_eq c (pos 0) ≡ b → int_eq c (pos 0) ≡ false
    by false e = e
    by true e = absurd (n (out e))

-- ---- totals

abbrev pub total_term : ℕ → ℤ → Term
total_term k c = record { field = k; coefficient = c }

kept_here : (cs : List ℤ) (k : ℕ) → k < length cs → get_or cs k (pos 0) ≢ pos 0 → fields_from k (drop k cs) ≡ total_term k (get_or cs k (pos 0)) ∷ fields_from (k + 1) (drop (k + 1) cs)
kept_here cs k h n =
    fields_from_step k cs k h
    ∙ ap (λ b. cond b (fields_from (suc k) (drop (k + 1) cs)) (total_term k (get_or cs k (pos 0)) ∷ fields_from (suc k) (drop (k + 1) cs))) (is_not_zero (get_or cs k (pos 0)) n)
    ∙ ap (λ m. total_term k (get_or cs k (pos 0)) ∷ fields_from m (drop (k + 1) cs)) (sym (add-one k))

pub kept_out : (made whole : List Term) (cs : List ℤ) (k : ℕ) → k < length cs → get_or cs k (pos 0) ≢ pos 0 → made ++ fields_from k (drop k cs) ≡ whole → IsOfFields (get_or cs k (pos 0)) whole
kept_out made whole cs k h n e = subst (IsOfFields (get_or cs k (pos 0))) e (of_later_fields made (fields_from k (drop k cs)) (get_or cs k (pos 0)) (subst (IsOfFields (get_or cs k (pos 0))) (sym (kept_here cs k h n)) (inl refl)))

pub kept_skip : (made whole : List Term) (cs : List ℤ) (k : ℕ) → k < length cs → get_or cs k (pos 0) ≡ pos 0 → made ++ fields_from k (drop k cs) ≡ whole → made ++ fields_from (k + 1) (drop (k + 1) cs) ≡ whole
kept_skip made whole cs k h z e =
    ap (λ us. made ++ us) (ap (λ m. fields_from m (drop (k + 1) cs)) (add-one k) ∙ sym (fields_from_step k cs k h ∙ ap (λ b. cond b (fields_from (suc k) (drop (k + 1) cs)) (total_term k (get_or cs k (pos 0)) ∷ fields_from (suc k) (drop (k + 1) cs))) (is_zero (get_or cs k (pos 0)) z))) ∙ e

pub kept_push : (ts : List FieldTerm) (t : FieldTerm) (whole : List Term) (cs : List ℤ) (k : ℕ) → k < length cs → t.field ≡ k → t.coefficient ≡ get_or cs k (pos 0) → get_or cs k (pos 0) ≢ pos 0 → plain_fields ts ++ fields_from k (drop k cs) ≡ whole
    → plain_fields (ts ++ t ∷ []) ++ fields_from (k + 1) (drop (k + 1) cs) ≡ whole
kept_push ts t whole cs k h p q n e =
    fields_push ts t (fields_from (k + 1) (drop (k + 1) cs))
    ∙ (λ i. plain_fields ts ++ (total_term (p i) (q i) ∷ fields_from (k + 1) (drop (k + 1) cs)))
    ∙ ap (λ us. plain_fields ts ++ us) (sym (kept_here cs k h n)) ∙ e

-- ---- products of fields

pub scaled_out : (made whole : List Term) (by : ℤ) (ts : List FieldTerm) (k : ℕ) (d : FieldTerm) → k < length ts → made ++ scaled_fields by (plain_fields (drop k ts)) ≡ whole → IsOfFields (by *ℤ (get_or ts k d).coefficient) whole
scaled_out made whole by ts k d h e =
    subst (IsOfFields (by *ℤ (get_or ts k d).coefficient)) e (of_later_fields made (scaled_fields by (plain_fields (drop k ts))) (by *ℤ (get_or ts k d).coefficient) (subst (IsOfFields (by *ℤ (get_or ts k d).coefficient)) (sym (scaled_fields_step by ts k d h)) (inl refl)))

pub scaled_push : (made : List FieldTerm) (t : FieldTerm) (whole : List Term) (by : ℤ) (ts : List FieldTerm) (k : ℕ) (d : FieldTerm) → k < length ts → t.field ≡ (get_or ts k d).field → t.coefficient ≡ by *ℤ (get_or ts k d).coefficient
    → plain_fields made ++ scaled_fields by (plain_fields (drop k ts)) ≡ whole → plain_fields (made ++ t ∷ []) ++ scaled_fields by (plain_fields (drop (k + 1) ts)) ≡ whole
scaled_push made t whole by ts k d h p q e =
    fields_push made t (scaled_fields by (plain_fields (drop (k + 1) ts)))
    ∙ (λ i. plain_fields made ++ (total_term (p i) (q i) ∷ scaled_fields by (plain_fields (drop (k + 1) ts))))
    ∙ ap (λ us. plain_fields made ++ us) (sym (scaled_fields_step by ts k d h)) ∙ e

-- ---- products of remainders

pub scaled_rem_out : (made whole : Remainders) (by : ℤ) (ts : List RemTerm) (k : ℕ) (d : RemTerm) → k < length ts → joined made (scaled_remainders by (plain_remainders (drop k ts))) ≡ whole → IsOfRemainders (by *ℤ (get_or ts k d).coefficient) whole
scaled_rem_out made whole by ts k d h e =
    subst (IsOfRemainders (by *ℤ (get_or ts k d).coefficient)) e
    (of_later_remainders made (scaled_remainders by (plain_remainders (drop k ts))) (by *ℤ (get_or ts k d).coefficient) (subst (IsOfRemainders (by *ℤ (get_or ts k d).coefficient)) (sym (scaled_remainders_step by ts k d h)) (inl refl)))

pub scaled_rem_push : (made : List RemTerm) (t : RemTerm) (whole : Remainders) (by : ℤ) (ts : List RemTerm) (k : ℕ) (d : RemTerm) → k < length ts
    → t.coefficient ≡ by *ℤ (get_or ts k d).coefficient → t.inner ≡ (get_or ts k d).inner → t.divisor ≡ (get_or ts k d).divisor
    → joined (plain_remainders made) (scaled_remainders by (plain_remainders (drop k ts))) ≡ whole → joined (plain_remainders (made ++ t ∷ [])) (scaled_remainders by (plain_remainders (drop (k + 1) ts))) ≡ whole
scaled_rem_push made t whole by ts k d h p q r e =
    remainders_push made t (scaled_remainders by (plain_remainders (drop (k + 1) ts)))
    ∙ (λ i. joined (plain_remainders made) (remainder (p i) (q i) (r i) (scaled_remainders by (plain_remainders (drop (k + 1) ts)))))
    ∙ ap (joined (plain_remainders made)) (sym (scaled_remainders_step by ts k d h)) ∙ e

-- ---- like terms that are kept

pub likes_out : (made whole : Remainders) (x : Like) (xs : List Like) → x.coefficient ≢ pos 0 → joined made (without_zeros (plain_likes (x ∷ xs))) ≡ whole → IsOfRemainders x.coefficient whole
likes_out made whole x xs n e =
    subst (IsOfRemainders x.coefficient) e (of_later_remainders made (without_zeros (plain_likes (x ∷ xs))) x.coefficient
    (subst (λ b. IsOfRemainders x.coefficient (cond b (without_zeros (plain_likes xs)) (remainder x.coefficient x.inner x.divisor (without_zeros (plain_likes xs))))) (sym (is_not_zero x.coefficient n)) (inl refl)))

pub likes_skip : (made whole : Remainders) (x : Like) (xs : List Like) → x.coefficient ≡ pos 0 → joined made (without_zeros (plain_likes (x ∷ xs))) ≡ whole → joined made (without_zeros (plain_likes xs)) ≡ whole
likes_skip made whole x xs z e = sym (ap (λ b. joined made (cond b (without_zeros (plain_likes xs)) (remainder x.coefficient x.inner x.divisor (without_zeros (plain_likes xs))))) (is_zero x.coefficient z)) ∙ e

pub likes_push : (made : List RemTerm) (t : RemTerm) (whole : Remainders) (x : Like) (xs : List Like) → x.coefficient ≢ pos 0 → t.coefficient ≡ x.coefficient → t.inner ≡ x.inner → t.divisor ≡ x.divisor
    → joined (plain_remainders made) (without_zeros (plain_likes (x ∷ xs))) ≡ whole → joined (plain_remainders (made ++ t ∷ [])) (without_zeros (plain_likes xs)) ≡ whole
likes_push made t whole x xs n p q r e =
    remainders_push made t (without_zeros (plain_likes xs))
    ∙ (λ i. joined (plain_remainders made) (remainder (p i) (q i) (r i) (without_zeros (plain_likes xs))))
    ∙ sym (ap (λ b. joined (plain_remainders made) (cond b (without_zeros (plain_likes xs)) (remainder x.coefficient x.inner x.divisor (without_zeros (plain_likes xs))))) (is_not_zero x.coefficient n)) ∙ e

-- a number that is in range, as the code holds it
pub held_number : (n y : ℤ) → y ≡ n → IsCoefficient n → to_z w64 (of_z w64 y) ≡ n
held_number n y e h = ap (λ z. to_z w64 (of_z w64 z)) e ∙ to_z-of_z w64 n (fits_64 n (let l : unsigned_abs n < 2 ^ 31 = h in omega arith))

pub held_range : (n y : ℤ) → y ≡ n → IsCoefficient n → IsCoefficient (to_z w64 (of_z w64 y))
held_range n y e h = subst IsCoefficient (sym (held_number n y e h)) h

-- a product of a constant and a coefficient, as the code computes it
pub held_product : (by a : ℤ) → IsLabelNumber by → IsCoefficient a → to_z w128 (of_z w128 (to_z w128 (of_z w128 by) *ℤ to_z w128 (of_z w128 (to_z w64 (of_z w64 a))))) ≡ by *ℤ a
held_product by a h g =
    let x : unsigned_abs by ≤ 2 ^ 63 = omega (arith, ints) in
    let y : unsigned_abs a ≤ 2 ^ 31 = (let l : unsigned_abs a < 2 ^ 31 = g in omega arith) in
    let p = small_product by a (2 ^ 63) (2 ^ 31) (2 ^ 94) x y (lit≤ tt) in
    let one = to_z-of_z w128 by (fits_128 by (omega arith)) in
    let fa = fits_64 a (omega arith) in
    let two : to_z w128 (of_z w128 (to_z w64 (of_z w64 a))) ≡ a = ap (λ z. to_z w128 (of_z w128 z)) (to_z-of_z w64 a fa) ∙ to_z-of_z w128 a (fits_128 a (omega arith)) in
    ap (λ z. to_z w128 (of_z w128 z)) (λ i. one i *ℤ two i) ∙ to_z-of_z w128 (by *ℤ a) (fits_128 (by *ℤ a) (omega arith))
