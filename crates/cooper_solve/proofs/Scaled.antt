-- The parts of a scaled condition.
use Rattle.std.proofs.Common.{◌≡◌, ℕ, zero, suc, ◌/◌, ◌<◌, ◌≤◌, inl, inr, List, [], ◌∷◌, ◌++◌, map, take, length, get_or, replicate, arith, refl, sym, ap, subst, ◌∙◌, take_all}
use Rattle.std.proofs.Math.IntN.{ℤ, pos, negsuc, ◌*ℤ◌}
use Rattle.std.specs.Prelude.{◌<ℤ◌, unsigned_abs, FitsSigned}
use Rattle.std.specs.Int.{w128}
use Rattle.std.specs.List.{Contains}
use Rattle.std.proofs.lemmas.Int.{ints}
use Rattle.std.proofs.lemmas.List.Elements.{Contains-append_left, Contains-append_right}
use Rattle.math_cooper.specs.Line.{DividedBy}
use Rattle.math_cooper.specs.System.{Condition, lead, sign, kind_times, times_condition, divides_condition, unit, unit_by, unit_all}
use Rattle.math_cooper.specs.Puts.{IsWide}
use Rattle.std.proofs.Common.{Result, Ok, Err}
use Rattle.std.specs.Prelude.{MatchResult}
use Rattle.cooper_solve.specs.declared.constraint.Stop.{Stop}
use Rattle.cooper_solve.specs.declared.constraint.Stop.TheVariants.{TooWide, Memory}
use Rattle.cooper_solve.specs.Views.{OnWide, WideKind, WideIn, WideInSystem}

pub contains_map : {A B : Type 0} (f : A → B) (xs : List A) (x : A) → Contains xs x → Contains (map f xs) (f x)
contains_map f [] x c = absurd (let h = c.1 in omega arith)
contains_map f (y ∷ xs) x (zero, h, e) = (0, omega arith, ap f e)
contains_map f (y ∷ xs) x (suc k, h, e) = Contains-append_right (f y ∷ []) (map f xs) (f x) (contains_map f xs x (k, omega arith, e))

-- ---- a condition times k

pub times_is : (i k : ℕ) (c r : Condition) → r.kind ≡ kind_times k c.kind → r.constant ≡ pos k *ℤ c.constant → r.coefficients ≡ map (λ a. pos k *ℤ a) (take i c.coefficients) ++ sign (lead i c) ∷ [] → r ≡ times_condition i k c
unfolding times_condition
times_is i k c r e f g = λ j. record { kind = e j; constant = f j; coefficients = g j }

pub wide_coefficient : (i k : ℕ) (c : Condition) (a : ℤ) → Contains (take i c.coefficients) a → IsWide (pos k *ℤ a) → WideIn (times_condition i k c)
unfolding times_condition
wide_coefficient i k c a h w = (pos k *ℤ a, inl (Contains-append_left (map (λ a. pos k *ℤ a) (take i c.coefficients)) (sign (lead i c) ∷ []) (pos k *ℤ a) (contains_map (λ a. pos k *ℤ a) (take i c.coefficients) a h)), w)

pub wide_kind : (i k : ℕ) (c : Condition) → WideKind (kind_times k c.kind) → WideIn (times_condition i k c)
unfolding times_condition
wide_kind i k c (m, e, w) = (pos m, inr (inr (m, e, refl)), w)

pub wide_constant : (i k : ℕ) (c : Condition) → IsWide (pos k *ℤ c.constant) → WideIn (times_condition i k c)
unfolding times_condition
wide_constant i k c w = (pos k *ℤ c.constant, inr (inl refl), w)

pub positive_product : (k d : ℤ) → pos 0 <ℤ k → pos 0 <ℤ d → pos 0 <ℤ (k *ℤ d)
positive_product (pos (suc k)) (pos (suc d)) p q = omega (arith, ints)
positive_product (pos zero) d p q = absurd (omega (arith, ints))
positive_product (pos (suc k)) (pos zero) p q = absurd (omega (arith, ints))
positive_product (pos (suc k)) (negsuc d) p q = absurd (omega (arith, ints))
positive_product (negsuc k) d p q = absurd (omega (arith, ints))

pub natural_is : (k : ℤ) → pos 0 <ℤ k → pos (unsigned_abs k) ≡ k
natural_is (pos n) h = refl
natural_is (negsuc n) h = absurd (omega (arith, ints))

-- ---- a unit

pub unit_same : (i c : ℕ) (d : Condition) → lead i d ≡ pos 0 → unit i c d ≡ d
unit_same i c d e = ap (λ z. unit_by (unsigned_abs z) i c d) e

unit_times_by : (i c : ℕ) (d : Condition) (n : ℕ) → 0 < n → unit_by n i c d ≡ times_condition i (c / n) d
unit_times_by i c d zero h = absurd (omega arith)
unit_times_by i c d (suc n) h = refl

abs_some : (a : ℤ) → (a ≡ pos 0 → ⊥) → 0 < unsigned_abs a
abs_some (pos zero) n = absurd (n refl)
abs_some (pos (suc k)) n = omega arith
abs_some (negsuc k) n = omega arith

pub unit_times : (i c : ℕ) (d : Condition) → (lead i d ≡ pos 0 → ⊥) → unit i c d ≡ times_condition i (c / unsigned_abs (lead i d)) d
unit_times i c d h = unit_times_by i c d (unsigned_abs (lead i d)) (abs_some (lead i d) h)

-- ---- all of a system

pub unit_end : (i c : ℕ) (S O P : List Condition) (k : ℕ) (last : Condition) → length S ≤ k → O ≡ map (unit i c) (take k S) → last ≡ divides_condition i c → P ≡ O ++ last ∷ [] → P ≡ unit_all i c S
unfolding unit_all
unit_end i c S O P k last h are is push = push ∙ (λ q. (are ∙ ap (map (unit i c)) (take_all k S h)) q ++ is q ∷ [])

pub wide_unit : (i c : ℕ) (S : List Condition) (k : ℕ) (item : Condition) → k < length S → item ≡ get_or S k item → WideIn (unit i c item) → WideInSystem (unit_all i c S)
unfolding unit_all
wide_unit i c S k item h e (z, n, w) = (z, (unit i c item, Contains-append_left (map (unit i c) S) (divides_condition i c ∷ []) (unit i c item) (contains_map (unit i c) S item (k, h, sym e)), n), w)

pub divides_is : (i : ℕ) (c : ℤ) (row : List ℤ) (push : List ℤ) → row ≡ replicate i (pos 0) → push ≡ row ++ pos 1 ∷ [] → record { kind = DividedBy (unsigned_abs c); constant = pos 0; coefficients = push } ≡ divides_condition i (unsigned_abs c)
unfolding divides_condition
divides_is i c row push e p = λ k. record { kind = DividedBy (unsigned_abs c); constant = pos 0; coefficients = (p ∙ ap (λ l. l ++ pos 1 ∷ []) e) k }

pub wide_times : (k a : ℤ) → pos 0 <ℤ k → (FitsSigned w128 (k *ℤ a) → ⊥) → IsWide (pos (unsigned_abs k) *ℤ a)
wide_times k a p n = subst (λ z. IsWide (z *ℤ a)) (sym (natural_is k p)) n

-- ---- the exit of a call that was too wide

on_wide : {P Q : Type 0} → (P → Q) → (s : Stop) → OnWide P s → OnWide Q s
on_wide f TooWide h = f h
on_wide f Memory h = tt

pub wide_exit : {T : Type 0} (r : Result T Stop) (R : T → Type 0) (P Q : Type 0) (y e : Stop) → r ≡ Err y → y ≡ e → (P → Q) → OnWide P e → MatchResult r R (OnWide Q)
wide_exit r R P Q y e is same f h = subst (λ x. MatchResult x R (OnWide Q)) (sym is) (subst (OnWide Q) (sym same) (on_wide f e h))

pub wide_result : {T : Type 0} (r : Result T Stop) (R R' : T → Type 0) (P Q : Type 0) → ((x : T) → R x → R' x) → (P → Q) → MatchResult r R (OnWide P) → MatchResult r R' (OnWide Q)
wide_result (Ok x) R R' P Q g f h = g x h
wide_result (Err e) R R' P Q g f h = on_wide f e h
