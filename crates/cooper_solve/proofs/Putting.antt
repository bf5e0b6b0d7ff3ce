-- The parts of a system with a form put.
use Rattle.std.proofs.Common.{◌≡◌, ℕ, zero, suc, ◌+◌, ◌<◌, ◌≤◌, inl, inr, List, [], ◌∷◌, ◌++◌, map, take, length, get_or, replicate, Bool, true, false, arith, refl, sym, ap, subst, ◌∙◌, add-one}
use Rattle.std.proofs.Math.IntN.{ℤ, pos, negsuc, ◌+ℤ◌, ◌-ℤ◌, ◌*ℤ◌, neg_ℤ}
use Rattle.std.specs.Prelude.{◌≤ℤ◌, ◌<ℤ◌, unsigned_abs}
use Rattle.std.specs.List.{Contains}
use Rattle.std.proofs.lemmas.Int.{ints}
use Rattle.std.proofs.lemmas.List.{map_more}
use Rattle.std.proofs.lemmas.List.Elements.{Contains-get_or}
use Rattle.math_cooper.specs.System.{Condition, Affine, lead, sign, put, put_all, add_times, low_form, high_form, free_form}
use Rattle.math_cooper.specs.Puts.{IsWide, cut_one}
use Rattle.math_cooper.proofs.Systems.{length-add_times}
use Rattle.cooper_solve.specs.Views.{WideIn, WideInSystem, WideInForm, WideSum, one}
use Rattle.cooper_solve.proofs.Scaled.{contains_map}

-- ---- forms

natural_at : (j : ℤ) → pos 0 ≤ℤ j → pos (unsigned_abs j) ≡ j
natural_at (pos n) h = refl
natural_at (negsuc n) h = absurd (omega (arith, ints))

pub low_is : (i : ℕ) (b : Condition) (j : ℤ) (r : Affine) → pos 0 ≤ℤ j → r.constant ≡ j -ℤ b.constant → r.coefficients ≡ map neg_ℤ (take i b.coefficients) → r ≡ low_form i b (unsigned_abs j)
unfolding low_form
low_is i b j r h e f = let n = natural_at j h in let same : r.constant ≡ neg_ℤ b.constant +ℤ pos (unsigned_abs j) = omega (arith, ints) in λ k. record { constant = same k; coefficients = f k }

pub low_wide_row : (i : ℕ) (b : Condition) (j : ℕ) (a : ℤ) → Contains (take i b.coefficients) a → IsWide (neg_ℤ a) → WideInForm (low_form i b j)
unfolding low_form
low_wide_row i b j a h w = (neg_ℤ a, inl (contains_map neg_ℤ (take i b.coefficients) a h), w)

pub low_wide_constant : (i : ℕ) (b : Condition) (j : ℤ) → pos 0 ≤ℤ j → IsWide (j -ℤ b.constant) → WideInForm (low_form i b (unsigned_abs j))
unfolding low_form
low_wide_constant i b j h w = let n = natural_at j h in let same : j -ℤ b.constant ≡ neg_ℤ b.constant +ℤ pos (unsigned_abs j) = omega (arith, ints) in (neg_ℤ b.constant +ℤ pos (unsigned_abs j), inr refl, subst IsWide same w)

pub high_is : (i : ℕ) (b : Condition) (j : ℤ) (r : Affine) → pos 0 ≤ℤ j → r.constant ≡ b.constant -ℤ j → r.coefficients ≡ take i b.coefficients → r ≡ high_form i b (unsigned_abs j)
unfolding high_form
high_is i b j r h e f = let n = natural_at j h in λ k. record { constant = (e ∙ ap (λ z. b.constant -ℤ z) (sym n)) k; coefficients = f k }

pub high_wide : (i : ℕ) (b : Condition) (j : ℤ) → pos 0 ≤ℤ j → IsWide (b.constant -ℤ j) → WideInForm (high_form i b (unsigned_abs j))
unfolding high_form
high_wide i b j h w = (b.constant -ℤ pos (unsigned_abs j), inr refl, subst (λ z. IsWide (b.constant -ℤ z)) (sym (natural_at j h)) w)

pub free_is : (i : ℕ) (j : ℤ) (r : Affine) → pos 0 ≤ℤ j → r.constant ≡ j → r.coefficients ≡ replicate i (pos 0) → r ≡ free_form i (unsigned_abs j)
unfolding free_form
free_is i j r h e f = λ k. record { constant = (e ∙ sym (natural_at j h)) k; coefficients = f k }

-- ---- sums of rows

pub sum_none : (a : ℤ) (f g : List ℤ) → [] ≡ add_times a (take 0 f) (take 0 g)
unfolding add_times
sum_none a f g = refl

sum_suc : (a : ℤ) (f g : List ℤ) (i : ℕ) → i < length f → i < length g → add_times a (take (suc i) f) (take (suc i) g) ≡ add_times a (take i f) (take i g) ++ (get_or f i (pos 0) +ℤ (a *ℤ get_or g i (pos 0))) ∷ []
unfolding add_times
sum_suc a [] g i p q = absurd (omega arith)
sum_suc a (x ∷ f) [] i p q = absurd (omega arith)
sum_suc a (x ∷ f) (y ∷ g) zero p q = refl
sum_suc a (x ∷ f) (y ∷ g) (suc i) p q = ap (λ t. (x +ℤ (a *ℤ y)) ∷ t) (sum_suc a f g i (omega arith) (omega arith))

pub sum_more : (a : ℤ) (f g : List ℤ) (i : ℕ) → i < length f → i < length g → add_times a (take (i + 1) f) (take (i + 1) g) ≡ add_times a (take i f) (take i g) ++ (get_or f i (pos 0) +ℤ (a *ℤ get_or g i (pos 0))) ∷ []
sum_more a f g i p q = ap (λ n. add_times a (take n f) (take n g)) (add-one i) ∙ sum_suc a f g i p q

pub sum_at : (a : ℤ) (f g : List ℤ) (k : ℕ) → k < length f → length f ≤ length g → get_or (add_times a f g) k (pos 0) ≡ get_or f k (pos 0) +ℤ (a *ℤ get_or g k (pos 0))
unfolding add_times
sum_at a [] g k h l = absurd (omega arith)
sum_at a (x ∷ f) [] k h l = absurd (omega arith)
sum_at a (x ∷ f) (y ∷ g) zero h l = refl
sum_at a (x ∷ f) (y ∷ g) (suc k) h l = sum_at a f g k (omega arith) (omega arith)

-- ---- one condition

zero_times : (f g : List ℤ) → add_times (pos 0) f g ≡ f
unfolding add_times
zero_times [] g = refl
zero_times (x ∷ f) [] = refl
zero_times (x ∷ f) (y ∷ g) = (λ k. same x y k ∷ zero_times f g k)
  where
    same : (x y : ℤ) → x +ℤ (pos 0 *ℤ y) ≡ x
    same x y = omega (arith, ints)

pub put_absent : (i : ℕ) (g : Affine) (c : Condition) → lead i c ≡ pos 0 → cut_one i c ≡ put i g c
unfolding put
put_absent i g c e =
    let constant : c.constant ≡ c.constant +ℤ (lead i c *ℤ g.constant) = sym (ap (λ a. c.constant +ℤ (a *ℤ g.constant)) e ∙ omega (arith, ints)) in
    let row : take i c.coefficients ≡ add_times (lead i c) (take i c.coefficients) g.coefficients = sym (ap (λ a. add_times a (take i c.coefficients) g.coefficients) e ∙ zero_times (take i c.coefficients) g.coefficients) in
    λ k. record { kind = c.kind; constant = constant k; coefficients = row k }

pub put_is : (i : ℕ) (g : Affine) (c r : Condition) (a : ℤ) → lead i c ≡ a → r.kind ≡ c.kind → r.constant ≡ c.constant +ℤ (a *ℤ g.constant) → r.coefficients ≡ add_times a (take i c.coefficients) g.coefficients → r ≡ put i g c
unfolding put
put_is i g c r a e k m l = λ j. record { kind = k j; constant = (m ∙ ap (λ b. c.constant +ℤ (b *ℤ g.constant)) (sym e)) j; coefficients = (l ∙ ap (λ b. add_times b (take i c.coefficients) g.coefficients) (sym e)) j }

pub put_wide_constant : (i : ℕ) (g : Affine) (c : Condition) (a : ℤ) → lead i c ≡ a → IsWide (c.constant +ℤ (a *ℤ g.constant)) → WideIn (put i g c)
unfolding put
put_wide_constant i g c a e w = (c.constant +ℤ (lead i c *ℤ g.constant), inr (inl refl), subst (λ b. IsWide (c.constant +ℤ (b *ℤ g.constant))) (sym e) w)

pub put_wide_row : (i : ℕ) (g : Affine) (c : Condition) (minus : Bool) → lead i c ≡ one minus → length (take i c.coefficients) ≡ length g.coefficients → WideSum minus (take i c.coefficients) g.coefficients → WideIn (put i g c)
unfolding put
put_wide_row i g c minus e l (k, h, w) =
    let f = take i c.coefficients in
    let row = add_times (one minus) f g.coefficients in
    let len : k < length row = omega (arith, length-add_times (one minus) f g.coefficients) in
    let here : Contains row (get_or row k (pos 0)) = Contains-get_or row k (pos 0) len in
    let same = sum_at (one minus) f g.coefficients k h (omega arith) in
    (get_or row k (pos 0), inl (subst (λ a. Contains (add_times a f g.coefficients) (get_or row k (pos 0))) (sym e) here), subst IsWide (sym same) w)

-- a unit that is not 0 has the sign of one
pub unit_sign : (a : ℤ) (minus : Bool) → a ≡ sign a → (a ≡ pos 0 → ⊥) → (minus ≡ true → a <ℤ pos 0) → (minus ≡ false → pos 0 ≤ℤ a) → a ≡ one minus
unit_sign (pos zero) minus e n f g = absurd (n refl)
unit_sign (pos (suc k)) true e n f g = absurd (let h = f refl in omega (arith, ints))
unit_sign (pos (suc k)) false e n f g = e
unit_sign (negsuc k) true e n f g = e
unit_sign (negsuc k) false e n f g = absurd (let h = g refl in omega (arith, ints))

-- ---- a system

pub put_more : (i : ℕ) (g : Affine) (S O P : List Condition) (k : ℕ) (item next : Condition) → k < length S → item ≡ get_or S k item → O ≡ put_all i g (take k S) → next ≡ put i g item → P ≡ O ++ next ∷ [] → P ≡ put_all i g (take (k + 1) S)
put_more i g S O P k item next h e are is push = push ∙ (λ q. are q ++ (is ∙ ap (put i g) e) q ∷ []) ∙ sym (map_more (put i g) S k item h)

pub put_wide : (i : ℕ) (g : Affine) (S : List Condition) (k : ℕ) (item : Condition) → k < length S → item ≡ get_or S k item → WideIn (put i g item) → WideInSystem (put_all i g S)
put_wide i g S k item h e (z, n, w) = (z, (put i g item, contains_map (put i g) S item (k, h, sym e), n), w)
