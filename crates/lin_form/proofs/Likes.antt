-- The steps of adding a form to a sum.
use Rattle.std.proofs.Common.{◌≡◌, ℕ, zero, suc, ◌+◌, ◌^◌, ◌<◌, ◌≤◌, List, [], ◌∷◌, ◌++◌, length, drop, get_or, true, false, cond, refl, ap, sym, ◌∙◌, subst, arith, add-one, unsigned_abs, to_z, of_z}
use Rattle.std.proofs.Math.ListN.{set}
use Rattle.std.proofs.Math.IntN.{ℤ, ◌+ℤ◌}
use Rattle.std.specs.Prelude.{FitsSigned}
use Rattle.std.specs.Int.{w64, w128}
use Rattle.std.proofs.lemmas.Int.{to_z-of_z}
use Rattle.model_form.specs.Form.{Form, remainder}
use Rattle.model_form.specs.Sums.{add_like, is_like}
use Rattle.model_form.specs.Ranges.{IsCoefficient, AreApart}
use Rattle.lin_form.specs.Within.{IsWithin, AreLikes}
use Rattle.lin_form.proofs.Gathering.{sum_within}
use Rattle.lin_form.specs.declared.form.FieldTerm.{FieldTerm}
use Rattle.lin_form.specs.declared.form.RemTerm.{RemTerm}
use Rattle.lin_form.specs.declared.sum.Like.{Like}
use Rattle.lin_form.specs.Terms.{plain_fields, plain_remainders}
use Rattle.lin_form.specs.Gathered.{plain_likes}
use Rattle.lin_form.proofs.Evaluating.{fits_64, fits_128}
use Rattle.lin_form.proofs.Joined.{plain_field}

-- ---- sums that fit

pub record HasRoom (s p : ℤ) : Type 0 where
  pub fits : FitsSigned w128 (to_z w128 (of_z w128 s) +ℤ to_z w128 (of_z w128 p))
  pub is : to_z w128 (of_z w128 (to_z w128 (of_z w128 s) +ℤ to_z w128 (of_z w128 p))) ≡ s +ℤ p

pub has_room : (m : ℕ) (s p : ℤ) → m ≤ 2 ^ 64 + 17 → IsWithin m s → IsWithin 1 p → HasRoom s p
has_room m s p l h g =
    let t = sum_within m s p h g in
    let one = to_z-of_z w128 s (fits_128 s (omega arith)) in
    let two = to_z-of_z w128 p (fits_128 p (omega arith)) in
    let whole = fits_128 (s +ℤ p) (omega arith) in
    let both : to_z w128 (of_z w128 s) +ℤ to_z w128 (of_z w128 p) ≡ s +ℤ p = λ i. one i +ℤ two i in
    record { fits = subst (FitsSigned w128) (sym both) whole; is = ap (λ z. to_z w128 (of_z w128 z)) both ∙ to_z-of_z w128 (s +ℤ p) whole }

pub held_64 : (a : ℤ) → IsCoefficient a → to_z w64 (of_z w64 a) ≡ a
held_64 a h = to_z-of_z w64 a (fits_64 a (let l : unsigned_abs a < 2 ^ 31 = h in omega arith))

-- ---- the next term

pub fields_drop : (ts : List FieldTerm) (k : ℕ) (d : FieldTerm) → k < length ts → plain_fields (drop k ts) ≡ plain_field (get_or ts k d) ∷ plain_fields (drop (k + 1) ts)
fields_drop ts k d h = rw (add-one k) (go ts k h)
  where
    go : (ts : List FieldTerm) (k : ℕ) → k < length ts → plain_fields (drop k ts) ≡ plain_field (get_or ts k d) ∷ plain_fields (drop (suc k) ts)
    go [] k h = absurd (omega arith)
    go (t ∷ ts) zero h = refl
    go (t ∷ ts) (suc k) h = go ts k (omega arith)

pub remainders_drop : (ts : List RemTerm) (k : ℕ) (d : RemTerm) → k < length ts → plain_remainders (drop k ts) ≡ remainder (get_or ts k d).coefficient (get_or ts k d).inner (get_or ts k d).divisor (plain_remainders (drop (k + 1) ts))
remainders_drop ts k d h = rw (add-one k) (go ts k h)
  where
    go : (ts : List RemTerm) (k : ℕ) → k < length ts → plain_remainders (drop k ts) ≡ remainder (get_or ts k d).coefficient (get_or ts k d).inner (get_or ts k d).divisor (plain_remainders (drop (suc k) ts))
    go [] k h = absurd (omega arith)
    go (t ∷ ts) zero h = refl
    go (t ∷ ts) (suc k) h = go ts k (omega arith)

pub apart_drop : (ts : List RemTerm) (k : ℕ) → AreApart (plain_remainders ts) → AreApart (plain_remainders (drop k ts))
apart_drop ts zero h = h
apart_drop [] (suc k) h = tt
apart_drop (t ∷ ts) (suc k) h = apart_drop ts k h.1

-- ---- like terms

pub likes_at : (m : ℕ) (ts : List Like) (k : ℕ) (d : Like) → AreLikes m (plain_likes ts) → k < length ts → IsWithin m (get_or ts k d).coefficient
likes_at m [] k d h l = absurd (omega arith)
likes_at m (t ∷ ts) zero d h l = h.0
likes_at m (t ∷ ts) (suc k) d h l = likes_at m ts k d h.3 (omega arith)

abbrev pub more_of : Like → ℤ → Like
more_of t c = record { coefficient = t.coefficient +ℤ c; inner = t.inner; divisor = t.divisor }

pub like_found : (ts : List Like) (i : ℕ) (c : ℤ) (g : Form) (m : ℕ) (d : Like) → i < length ts
    → ((k : ℕ) (e : Like) → k < i → is_like (get_or ts k e).inner (get_or ts k e).divisor g m ≡ false) → is_like (get_or ts i d).inner (get_or ts i d).divisor g m ≡ true
    → plain_likes (set ts i (more_of (get_or ts i d) c)) ≡ add_like c g m (plain_likes ts)
like_found [] i c g m d l n h = absurd (omega arith)
like_found (t ∷ ts) zero c g m d l n h = sym (ap (λ b. cond b (remainder (t.coefficient +ℤ c) t.inner t.divisor (plain_likes ts)) (remainder t.coefficient t.inner t.divisor (add_like c g m (plain_likes ts)))) h)
like_found (t ∷ ts) (suc i) c g m d l n h =
    ap (remainder t.coefficient t.inner t.divisor) (like_found ts i c g m d (omega arith) (λ k e q. n (suc k) e (omega arith)) h)
    ∙ sym (ap (λ b. cond b (remainder (t.coefficient +ℤ c) t.inner t.divisor (plain_likes ts)) (remainder t.coefficient t.inner t.divisor (add_like c g m (plain_likes ts)))) (n 0 t (omega arith)))

pub like_new : (ts : List Like) (t : Like) → ((k : ℕ) (e : Like) → k < length ts → is_like (get_or ts k e).inner (get_or ts k e).divisor t.inner t.divisor ≡ false) → plain_likes (ts ++ t ∷ []) ≡ add_like t.coefficient t.inner t.divisor (plain_likes ts)
like_new [] t n = refl
like_new (x ∷ ts) t n =
    ap (remainder x.coefficient x.inner x.divisor) (like_new ts t (λ k e q. n (suc k) e (omega arith)))
    ∙ sym (ap (λ b. cond b (remainder (x.coefficient +ℤ t.coefficient) x.inner x.divisor (plain_likes ts)) (remainder x.coefficient x.inner x.divisor (add_like t.coefficient t.inner t.divisor (plain_likes ts)))) (n 0 x (omega arith)))
