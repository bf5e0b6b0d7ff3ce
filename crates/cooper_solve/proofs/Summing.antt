-- Sums of forms that are at least 0.
use Rattle.std.proofs.Common.{◌≡◌, ℕ, suc, ◌<◌, ◌≤◌, List, [], ◌∷◌, ◌++◌, length, map, get_or, refl, ap, sym, ◌∙◌, subst, arith}
use Rattle.std.proofs.Math.IntN.{ℤ, pos, negsuc, ◌+ℤ◌, ◌*ℤ◌}
use Rattle.std.specs.Prelude.{◌≤ℤ◌, ◌<ℤ◌, int_lt, true}
use Rattle.std.proofs.lemmas.Int.{ints, by_lt_z}
use Rattle.math_int.specs.Whole.{IsFloor}
use Rattle.std.proofs.lemmas.List.{length-map}
use Rattle.std.specs.List.{All}
use Rattle.std.proofs.lemmas.List.Elements.{All-append, All-cons, All-nil, All-head, All-tail}
use Rattle.math_int.proofs.Laws.{times-le, times-add}
use Rattle.math_cooper.specs.Line.{AtLeastZero, Meets}
use Rattle.math_cooper.specs.System.{Condition, Affine, affine_value, dot, add_times, Holds}
use Rattle.math_cooper.proofs.Systems.{dot-add_times, dot-times}
use Rattle.cooper_solve.specs.Sums.{IsAtLeast, AreAtLeast}

pub more : (vs : List ℤ) (fs gs : List Affine) (f : Affine) → gs ≡ fs ++ f ∷ [] → AreAtLeast vs fs → IsAtLeast vs f → AreAtLeast vs gs
more vs fs gs f e h g = subst (AreAtLeast vs) (sym e) (All-append (IsAtLeast vs) fs (f ∷ []) h (All-cons (IsAtLeast vs) f [] g (All-nil (IsAtLeast vs))))

pub natural_times : (a x : ℤ) → pos 0 ≤ℤ a → pos 0 ≤ℤ x → pos 0 ≤ℤ (a *ℤ x)
natural_times (pos n) x h g = let m = times-le n (pos 0) x g in omega (arith, ints)
natural_times (negsuc n) x h g = absurd (omega (arith, ints))

-- so many times the one and so many times the other
pub mixed_at_least : (vs : List ℤ) (a b : ℤ) (f g : Affine) → pos 0 ≤ℤ a → pos 0 ≤ℤ b → length f.coefficients ≡ length g.coefficients → IsAtLeast vs f → IsAtLeast vs g
    → IsAtLeast vs (record { constant = (a *ℤ f.constant) +ℤ (b *ℤ g.constant); coefficients = add_times (pos 1) (map (λ x. a *ℤ x) f.coefficients) (map (λ x. b *ℤ x) g.coefficients) })
mixed_at_least vs a b f g p q l h k =
    let x = map (λ z. a *ℤ z) f.coefficients in
    let y = map (λ z. b *ℤ z) g.coefficients in
    let lx = length-map f.coefficients (λ z. a *ℤ z) in
    let ly = length-map g.coefficients (λ z. b *ℤ z) in
    let short : length y ≤ length x = omega arith in
    let both = dot-add_times (pos 1) x y vs short in
    let one = dot-times a f.coefficients vs in
    let two = dot-times b g.coefficients vs in
    let m = natural_times a (affine_value f vs) p h in
    let n = natural_times b (affine_value g vs) q k in
    let s = times-add a (dot f.coefficients vs) f.constant in
    let t = times-add b (dot g.coefficients vs) g.constant in
    omega (arith, ints)

-- a condition that is one of at least 0
pub condition_out : (vs : List ℤ) (c : Condition) → c.kind ≡ AtLeastZero → Holds vs c → IsAtLeast vs (record { constant = c.constant; coefficients = c.coefficients })
condition_out vs c e h = subst (λ k. Meets k (dot c.coefficients vs +ℤ c.constant)) e h

pub nothing : (f vs : List ℤ) → ((k : ℕ) → k < length f → get_or f k (pos 0) ≡ pos 0) → dot f vs ≡ pos 0
unfolding dot
nothing [] vs h = refl
nothing (a ∷ f) [] h = refl
nothing (a ∷ f) (v ∷ vs) h = let e : a ≡ pos 0 = h 0 (omega arith) in let r = nothing f vs (λ k l. h (suc k) (omega arith)) in ap (λ z. (z *ℤ v) +ℤ dot f vs) e ∙ none v (dot f vs) ∙ r
  where
    none : (v d : ℤ) → (pos 0 *ℤ v) +ℤ d ≡ d
    none v d = omega (arith, ints)

pub lt_out : (x y : ℤ) → int_lt x y ≡ true → x <ℤ y
lt_out x y e = grind (arith, ints)

-- a sum of multiples, and a constant that is rounded down
pub tighter : (vs : List ℤ) (by q : ℤ) (f : Affine) (v : List ℤ) → pos 0 <ℤ by → map (λ a. by *ℤ a) v ≡ f.coefficients → IsFloor f.constant by q → IsAtLeast vs f → IsAtLeast vs (record { constant = q; coefficients = v })
tighter vs (negsuc n) q f v p e g h = absurd (omega (arith, ints))
tighter vs (pos n) q f v p e g h = by_lt_z (dot v vs +ℤ q) (pos 0)
    (λ l. let w = whole in let s = split in let floor = g.is in let left = g.over p in let low = left.0 in let high = left.1 in let some : (dot v vs +ℤ q) ≤ℤ negsuc 0 = omega (arith, ints) in let m = times-le n (dot v vs +ℤ q) (negsuc 0) some in absurd (omega (arith, ints)))
    (λ l. l)
  where
    whole : dot f.coefficients vs ≡ pos n *ℤ dot v vs
    whole = ap (λ c. dot c vs) (sym e) ∙ dot-times (pos n) v vs

    split : pos n *ℤ (dot v vs +ℤ q) ≡ (pos n *ℤ dot v vs) +ℤ (pos n *ℤ q)
    split = times-add (pos n) (dot v vs) q

pub split_last : (P : Affine → Type 0) (xs : List Affine) (x : Affine) → All P (xs ++ x ∷ []) → All P xs × P x
split_last P [] x h = (All-nil P, All-head P x [] h)
split_last P (y ∷ xs) x h = let r = split_last P xs x (All-tail P y (xs ++ x ∷ []) h) in (All-cons P y xs (All-head P y (xs ++ x ∷ []) h) r.0, r.1)
