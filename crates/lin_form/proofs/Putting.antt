-- The steps of putting forms for fields.
use Rattle.std.proofs.Common.{◌≡◌, ℕ, zero, suc, ◌+◌, ◌*◌, ◌^◌, ◌<◌, ◌≤◌, inl, inr, List, [], ◌∷◌, length, get_or, refl, ap, ◌∙◌, subst, arith, unsigned_abs, lit≤}
use Rattle.std.proofs.Math.IntN.{ℤ, pos, ◌+ℤ◌, ◌*ℤ◌}
use Rattle.std.proofs.lemmas.Int.{ints, to_z-of_z}
use Rattle.std.proofs.Common.{to_z, of_z, Result, Ok, Err, MatchResult}
use Rattle.std.specs.Int.{w64, w128}
use Rattle.model_tree.specs.Limits.{greatest_divisor}
use Rattle.math_int.proofs.Floors.{euclid_range}
use Rattle.model_form.specs.Form.{Form, form, Term, Remainders, no_remainders, remainder, constant_of, modulo}
use Rattle.model_form.specs.Sums.{Sum, add_form, number_form, remainder_form}
use Rattle.model_form.specs.Ranges.{IsOutsideAfter, IsOutsideWithin, IsCoefficient}
use Rattle.lin_form.specs.declared.form.RemTerm.{RemTerm}
use Rattle.lin_form.specs.declared.stop.FormStop.{FormStop}
use Rattle.lin_form.specs.declared.stop.FormStop.TheVariants.{Range, Memory}
use Rattle.lin_form.specs.Terms.{plain_remainders}
use Rattle.lin_form.specs.Stops.{StopsAt}
use Rattle.lin_form.proofs.Evaluating.{small_product, small_sum, fits_64, fits_128}

pub add_none : (by : ℤ) (s : Sum) → add_form by (number_form (pos 0)) s ≡ s
add_none by s = λ i. record { constant = same i; totals = s.totals; terms = s.terms }
  where
    same : s.constant +ℤ (by *ℤ pos 0) ≡ s.constant
    same = omega (arith, ints)

pub past_end : {A : Type 0} (xs : List A) (k : ℕ) (d : A) → length xs ≤ k → get_or xs k d ≡ d
past_end [] k d h = refl
past_end (x ∷ xs) zero d h = absurd (omega arith)
past_end (x ∷ xs) (suc k) d h = past_end xs k d (omega arith)

pub modulo_small : (c : ℤ) (k : ℕ) → 0 < k → k ≤ greatest_divisor → unsigned_abs (modulo c k) ≤ greatest_divisor
modulo_small c k h l = let r = euclid_range c (pos k) (omega (arith, ints)) in let low = r.0 in let high = r.1 in omega (arith, ints)

pub remainder_constant : (f : Form) (k : ℕ) → 0 < k → k ≤ greatest_divisor → unsigned_abs (constant_of (remainder_form f k)) ≤ greatest_divisor
remainder_constant (form c [] no_remainders) k h l = modulo_small c k h l
remainder_constant (form c (t ∷ ts) rs) k h l = omega arith
remainder_constant (form c [] (remainder a f m rs)) k h l = omega arith

pub constant_grows : (i : ℕ) (s by a : ℤ) → IsCoefficient by → unsigned_abs a ≤ greatest_divisor → unsigned_abs s ≤ 2 ^ 98 + i * 2 ^ 43 → unsigned_abs (s +ℤ (by *ℤ a)) ≤ 2 ^ 98 + (i + 1) * 2 ^ 43
constant_grows i s by a b h l =
    let x : unsigned_abs by ≤ 2 ^ 31 = (let y : unsigned_abs by < 2 ^ 31 = b in omega arith) in
    let p = small_product by a (2 ^ 31) greatest_divisor (2 ^ 43) x h (lit≤ tt) in
    let t = small_sum (2 ^ 98 + i * 2 ^ 43) (2 ^ 43) s (by *ℤ a) l p in
    omega arith

-- ---- why an inner form is not given

pub stops_weaker : (P Q : ℤ → Type 0) (e : FormStop) → ((n : ℤ) → P n → Q n) → StopsAt P e → StopsAt Q e
stops_weaker P Q (Range n) f h = f n h
stops_weaker P Q Memory f h = tt

pub stops_memory : (P : ℤ → Type 0) (e : FormStop) → ((n : ℤ) → P n → ⊥) → StopsAt P e → e ≡ Memory
stops_memory P (Range n) f h = absurd (f n h)
stops_memory P Memory f h = refl

pub within_at : (ts : List RemTerm) (k : ℕ) (d : RemTerm) (gs : List Form) (n : ℤ) → k < length ts → IsOutsideAfter (get_or ts k d).inner gs n → IsOutsideWithin (plain_remainders ts) gs n
within_at [] k d gs n h o = absurd (omega arith)
within_at (t ∷ ts) zero d gs n h o = inl o
within_at (t ∷ ts) (suc k) d gs n h o = inr (within_at ts k d gs n (omega arith) o)

pub after_within : (f : Form) (c : ℤ) (ts : List Term) (rs : Remainders) (gs : List Form) (n : ℤ) → form c ts rs ≡ f → IsOutsideWithin rs gs n → IsOutsideAfter f gs n
after_within f c ts rs gs n e o = subst (λ g. IsOutsideAfter g gs n) e (inr o)

-- a coefficient, as the code hands it on
pub held_128 : (a : ℤ) → IsCoefficient a → to_z w128 (of_z w128 (to_z w64 (of_z w64 a))) ≡ a
held_128 a h =
    let l : unsigned_abs a < 2 ^ 31 = h in
    ap (λ z. to_z w128 (of_z w128 z)) (to_z-of_z w64 a (fits_64 a (omega arith))) ∙ to_z-of_z w128 a (fits_128 a (omega arith))

-- two things that are so of a result
pub both_of : {T E : Type 0} (r : Result T E) (P Q R : T → Type 0) (S U : E → Type 0) → MatchResult r P S → MatchResult r Q U → ((x : T) → P x → Q x → R x) → MatchResult r R (λ _. Unit {0})
both_of (Ok x) P Q R S U h k f = f x h k
both_of (Err e) P Q R S U h k f = tt
