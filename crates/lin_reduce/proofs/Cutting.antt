-- Systems with a bound of one variable.
use Rattle.std.proofs.Common.{◌≡◌, ℕ, zero, suc, ◌<◌, List, [], ◌∷◌, ◌++◌, length, get_or, set, replicate, refl, ap, sym, ◌∙◌, subst, arith}
use Rattle.std.proofs.Math.IntN.{ℤ, pos, negsuc, neg_ℤ, ◌+ℤ◌, ◌*ℤ◌}
use Rattle.std.specs.Prelude.{◌≤ℤ◌}
use Rattle.std.proofs.lemmas.Int.{ints}
use Rattle.std.proofs.lemmas.List.{length-replicate}
use Rattle.std.proofs.lemmas.List.Elements.{All-append, All-cons, All-head, All-nil, All-tail}
use Rattle.math_cooper.specs.Line.{AtLeastZero, Meets}
use Rattle.math_cooper.specs.System.{Condition, Holds, Solves, dot}
use Rattle.math_int.proofs.Laws.{le-times, neg-times}
use Rattle.math_cooper.proofs.Systems.{dot-zeros}

dot_one : (n i : ℕ) (a : ℤ) (vs : List ℤ) → i < n → length vs ≡ n → dot (set (replicate n (pos 0)) i a) vs ≡ a *ℤ get_or vs i (pos 0)
unfolding dot
dot_one zero i a vs l e = absurd (omega arith)
dot_one (suc n) i a [] l e = absurd (omega arith)
dot_one (suc n) zero a (v ∷ vs) l e = let z = dot-zeros n vs in omega (arith, ints)
dot_one (suc n) (suc i) a (v ∷ vs) l e = let h = dot_one n i a vs (omega arith) (omega arith) in omega (arith, ints)

-- the row of one variable
pub dot_single : (n i : ℕ) (a : ℤ) (f g vs : List ℤ) → f ≡ replicate n (pos 0) → g ≡ set f i a → i < length f → length vs ≡ n → dot g vs ≡ a *ℤ get_or vs i (pos 0)
dot_single n i a f g vs e h l m = subst (λ x. dot x vs ≡ a *ℤ get_or vs i (pos 0)) (sym h) (subst (λ y. dot (set y i a) vs ≡ a *ℤ get_or vs i (pos 0)) (sym e) (dot_one n i a vs low m))
  where
    low : i < n
    low = let k = ap length e in let r = length-replicate n (pos 0) in omega arith

pub one_more : (vs : List ℤ) (S T : List Condition) (x : Condition) → T ≡ S ++ x ∷ [] → Solves vs S → Holds vs x → Solves vs T
one_more vs S T x e h g = subst (Solves vs) (sym e) (All-append (Holds vs) S (x ∷ []) h (All-cons (Holds vs) x [] g (All-nil (Holds vs))))

pub one_less : (vs : List ℤ) (S : List Condition) (x : Condition) → Solves vs (S ++ x ∷ []) → Solves vs S × Holds vs x
one_less vs [] x h = (All-nil (Holds vs), All-head (Holds vs) x [] h)
one_less vs (y ∷ S) x h =
    let rest = one_less vs S x (All-tail (Holds vs) y (S ++ x ∷ []) h) in
    (All-cons (Holds vs) y S (All-head (Holds vs) y (S ++ x ∷ []) h) rest.0, rest.1)

-- a condition with the row of one variable
pub bound_of : (c : Condition) (vs : List ℤ) (t k x : ℤ) (row : List ℤ) → c.kind ≡ AtLeastZero → c.constant ≡ k → c.coefficients ≡ row → dot row vs ≡ t *ℤ x → Holds vs c → pos 0 ≤ℤ ((t *ℤ x) +ℤ k)
bound_of c vs t k x row e d f g h = subst (λ z. pos 0 ≤ℤ z) same (subst (λ q. Meets q (dot c.coefficients vs +ℤ c.constant)) e h)
  where
    same : dot c.coefficients vs +ℤ c.constant ≡ (t *ℤ x) +ℤ k
    same = (λ i. dot (f i) vs +ℤ d i) ∙ ap (λ y. y +ℤ k) g

-- what so many times it is tells which number it is
cancel_pos : (n : ℕ) (x q : ℤ) → pos (suc n) *ℤ x ≡ pos (suc n) *ℤ q → x ≡ q
cancel_pos n x q e =
    let l = le-times (suc n) x q (omega arith) (omega (arith, ints, e)) in
    let m = le-times (suc n) q x (omega arith) (omega (arith, ints, e)) in
    omega (arith, ints)

cancel : (t x q : ℤ) → (t ≡ pos 0 → ⊥) → t *ℤ x ≡ t *ℤ q → x ≡ q
cancel (pos zero) x q d e = absurd (d refl)
cancel (pos (suc n)) x q d e = cancel_pos n x q e
cancel (negsuc n) x q d e =
    let a = neg-times (pos (suc n)) x in
    let b = neg-times (pos (suc n)) q in
    cancel_pos n x q (omega (arith, ints))

-- the value of a variable by which a sum and its opposite are both at least 0
pub pinned_value : (t k u m x q : ℤ) → (t ≡ pos 0 → ⊥) → k +ℤ (t *ℤ q) ≡ pos 0 → u ≡ neg_ℤ t → m ≡ neg_ℤ k → pos 0 ≤ℤ ((t *ℤ x) +ℤ k) → pos 0 ≤ℤ ((u *ℤ x) +ℤ m) → x ≡ q
pinned_value t k u m x q d e f g h i =
    let turned : u *ℤ x ≡ neg_ℤ (t *ℤ x) = ap (λ a. a *ℤ x) f ∙ neg-times t x in
    cancel t x q d (omega (arith, ints))
