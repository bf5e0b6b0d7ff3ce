-- A step's first part keeps solvability.
use Rattle.std.proofs.Common.{◌≡◌, ℕ, zero, suc, ◌+◌, ◌*◌, ◌/◌, ◌<◌, ◌⊎◌, inl, inr, ⊎_elim, List, [], ◌∷◌, ◌++◌, replicate, take, length, length-append, length-take, get_or, map, arith, refl, ap, sym, ◌∙◌, subst}
use Rattle.std.proofs.Math.IntN.{ℤ, pos, negsuc, ◌+ℤ◌, ◌*ℤ◌, zero-*ℤ}
use Rattle.std.proofs.Math.ListN.{length-map, length-replicate}
use Rattle.std.proofs.Math.Nat.{mul-div_cancel}
use Rattle.std.specs.Prelude.{◌<ℤ◌, unsigned_abs}
use Rattle.std.specs.List.{All, slice_index_or}
use Rattle.std.proofs.lemmas.Int.{ints}
use Rattle.std.proofs.lemmas.List.Elements.{All-nil, All-cons, All-head, All-tail, All-map, All-append, All-contains, Contains-push}
use Rattle.math_cooper.specs.Line.{IsMultiple, Kind, AtLeastZero, DividedBy, Meets}
use Rattle.math_cooper.specs.System.{dot, Condition, value, Holds, Solves, lead, kind_times, sign, times_condition, unit, unit_by, unit_all, divides_condition, IsCommonAt, IsUnitAt, HasWidth, IsSolvable}
use Rattle.math_int.proofs.Laws.{times-assoc, times-add, times-le, le-times}
use Rattle.math_cooper.proofs.Systems.{dot-push, dot-times, dot-zeros}
use Rattle.math_cooper.proofs.Elimination.{all_unmap, last_of}

-- ---- a kind, and k times it

pub times_cancel : (k : ℕ) (a b : ℤ) → 0 < k → pos k *ℤ a ≡ pos k *ℤ b → a ≡ b
times_cancel k a b p e =
    let l = le-times k a b p (omega (arith, ints)) in
    let g = le-times k b a p (omega (arith, ints)) in
    omega (arith, ints)

pub meets_times : (k : ℕ) (d : Kind) (z : ℤ) → Meets d z → Meets (kind_times k d) (pos k *ℤ z)
meets_times k AtLeastZero z h = let r = times-le k (pos 0) z h in omega (arith, ints)
meets_times k (DividedBy m) z h = record { times = h.times; is = ap (λ y. pos k *ℤ y) h.is ∙ sym (times-assoc (pos k) (pos m) h.times) }

pub times_meets : (k : ℕ) (d : Kind) (z : ℤ) → 0 < k → Meets (kind_times k d) (pos k *ℤ z) → Meets d z
times_meets k AtLeastZero z p h = le-times k (pos 0) z p (omega (arith, ints))
times_meets k (DividedBy m) z p h = record { times = h.times; is = times_cancel k z (pos m *ℤ h.times) p (h.is ∙ times-assoc (pos k) (pos m) h.times) }

-- ---- the value of the constraint times k

pub push-value : (f ws : List ℤ) (i : ℕ) (s y : ℤ) → length f ≡ i → length ws ≡ i → dot (f ++ s ∷ []) (ws ++ y ∷ []) ≡ dot f ws +ℤ (s *ℤ y)
unfolding dot
push-value [] [] i s y e h = omega (arith, ints)
push-value [] (w ∷ ws) i s y e h = absurd (omega arith)
push-value (a ∷ f) [] i s y e h = absurd (omega arith)
push-value (a ∷ f) (w ∷ ws) zero s y e h = absurd (omega arith)
push-value (a ∷ f) (w ∷ ws) (suc i) s y e h = omega (arith, ints, push-value f ws i s y (omega arith) (omega arith))

front_length : (i : ℕ) (f : List ℤ) → length f ≡ i + 1 → length (take i f) ≡ i
front_length i f e = omega (arith, length-take i f)

pub times-value : (i k c : ℕ) (d : Condition) (ws : List ℤ) (x : ℤ) → length ws ≡ i → HasWidth (i + 1) d → pos k *ℤ lead i d ≡ sign (lead i d) *ℤ pos c
    → value (times_condition i k d) (ws ++ (pos c *ℤ x) ∷ []) ≡ pos k *ℤ value d (ws ++ x ∷ [])
unfolding times_condition
times-value i k c d ws x h w e =
    let f = take i d.coefficients in
    let a = lead i d in
    let new = push-value (map (λ a. pos k *ℤ a) f) ws i (sign a) (pos c *ℤ x) (length-map f (λ a. pos k *ℤ a) ∙ front_length i d.coefficients w) h in
    let old = dot-push d.coefficients ws i x h in
    let rest = dot-times (pos k) f ws in
    let part : sign a *ℤ (pos c *ℤ x) ≡ pos k *ℤ (a *ℤ x) = sym (times-assoc (sign a) (pos c) x) ∙ ap (λ y. y *ℤ x) (sym e) ∙ times-assoc (pos k) a x in
    let spread = times-add (pos k) (a *ℤ x) (dot f ws) in
    omega (arith, ints, new, ap (λ y. pos k *ℤ (y +ℤ d.constant)) old, rest, part, spread, times-add (pos k) ((a *ℤ x) +ℤ dot f ws) d.constant)

-- ---- one constraint

all_left : {A : Type 0} (P : A → Type 0) (L : List A) (a : A) → All P (L ++ a ∷ []) → All P L
all_left P [] a h = All-nil P
all_left P (l ∷ L) a h = All-cons P l L (All-head P l (L ++ a ∷ []) h) (all_left P L a (All-tail P l (L ++ a ∷ []) h))

zero_cases : (n : ℕ) → (n ≡ 0) ⊎ (0 < n)
zero_cases zero = inl refl
zero_cases (suc n) = inr (omega arith)

abs_zero : (a : ℤ) → unsigned_abs a ≡ 0 → a ≡ pos 0
abs_zero (pos n) e = ap pos e
abs_zero (negsuc n) e = absurd (omega arith)

factor_some : (q a c : ℕ) → 0 < c → c ≡ q * a → 0 < q
factor_some zero a c p e = absurd (omega arith)
factor_some (suc q) a c p e = omega arith

pub not_zero : (a : ℤ) → a ≡ pos 0 → 0 < unsigned_abs a → ⊥
not_zero a e p = omega (arith, ints)

-- where a divides c, the number k that makes a to c or -c
pub multiplier : (a : ℤ) (c : ℕ) → 0 < c → 0 < unsigned_abs a → IsMultiple (unsigned_abs a) c → (0 < c / unsigned_abs a) × (pos (c / unsigned_abs a) *ℤ a ≡ sign a *ℤ pos c)
multiplier (pos zero) c some p d = absurd (omega arith)
multiplier (pos (suc n)) c some p d =
    let e : c / suc n ≡ d.factor = ap (λ m. m / suc n) d.is ∙ mul-div_cancel d.factor (omega arith) in
    let q = factor_some d.factor (suc n) c some d.is in
    (rw e q, rw e (let f = d.is in omega (arith, ints)))
multiplier (negsuc n) c some p d =
    let e : c / suc n ≡ d.factor = ap (λ m. m / suc n) d.is ∙ mul-div_cancel d.factor (omega arith) in
    let q = factor_some d.factor (suc n) c some d.is in
    (rw e q, rw e (let f = d.is in omega (arith, ints)))

pub unit_cases : (P : Condition → Type 0) (i c : ℕ) (d : Condition) → (lead i d ≡ pos 0 → P d) → (0 < unsigned_abs (lead i d) → P (times_condition i (c / unsigned_abs (lead i d)) d)) → P (unit i c d)
unit_cases P i c d f g = by (unsigned_abs (lead i d)) refl
  where
    by : (n : ℕ) → unsigned_abs (lead i d) ≡ n → P (unit_by n i c d)
    by zero e = f (abs_zero (lead i d) e)
    by (suc n) e = subst (λ m. P (times_condition i (c / m) d)) e (g (omega arith))

-- variable i is not in the constraint, so its value is free
free_of : (i : ℕ) (d : Condition) (ws : List ℤ) (x y : ℤ) → length ws ≡ i → lead i d ≡ pos 0 → value d (ws ++ x ∷ []) ≡ value d (ws ++ y ∷ [])
free_of i d ws x y h e =
    let zero_times : (z : ℤ) → lead i d *ℤ z ≡ pos 0 = λ z. ap (λ a. a *ℤ z) e ∙ zero-*ℤ z in
    omega (arith, ints, dot-push d.coefficients ws i x h, dot-push d.coefficients ws i y h, zero_times x, zero_times y)

pub unit_in : (i c : ℕ) (d : Condition) (ws : List ℤ) (x : ℤ) → length ws ≡ i → HasWidth (i + 1) d → 0 < c → IsCommonAt i c d → Holds (ws ++ x ∷ []) d → Holds (ws ++ (pos c *ℤ x) ∷ []) (unit i c d)
unfolding times_condition
unit_in i c d ws x h w some common k = unit_cases (Holds (ws ++ (pos c *ℤ x) ∷ [])) i c d
    (λ e. subst (Meets d.kind) (free_of i d ws x (pos c *ℤ x) h e) k)
    (λ p. ⊎_elim (λ e. absurd (not_zero (lead i d) e p)) (λ m.
    let r = multiplier (lead i d) c some p m in
    scaled (c / unsigned_abs (lead i d)) (times-value i (c / unsigned_abs (lead i d)) c d ws x h w r.1)) common)
  where
    scaled : (n : ℕ) → value (times_condition i n d) (ws ++ (pos c *ℤ x) ∷ []) ≡ pos n *ℤ value d (ws ++ x ∷ []) → Holds (ws ++ (pos c *ℤ x) ∷ []) (times_condition i n d)
    scaled n e = subst (Meets (kind_times n d.kind)) (sym e) (meets_times n d.kind (value d (ws ++ x ∷ [])) k)

pub unit_out : (i c : ℕ) (d : Condition) (ws : List ℤ) (x : ℤ) → length ws ≡ i → HasWidth (i + 1) d → 0 < c → IsCommonAt i c d → Holds (ws ++ (pos c *ℤ x) ∷ []) (unit i c d) → Holds (ws ++ x ∷ []) d
unfolding times_condition
unit_out i c d ws x h w some common = unit_cases (λ u. Holds (ws ++ (pos c *ℤ x) ∷ []) u → Holds (ws ++ x ∷ []) d) i c d
    (λ e k. subst (Meets d.kind) (free_of i d ws (pos c *ℤ x) x h e) k)
    (λ p. ⊎_elim (λ e. absurd (not_zero (lead i d) e p)) (λ m.
    let r = multiplier (lead i d) c some p m in
    scaled (c / unsigned_abs (lead i d)) r.0 (times-value i (c / unsigned_abs (lead i d)) c d ws x h w r.1)) common)
  where
    scaled : (n : ℕ) → 0 < n → value (times_condition i n d) (ws ++ (pos c *ℤ x) ∷ []) ≡ pos n *ℤ value d (ws ++ x ∷ []) → Holds (ws ++ (pos c *ℤ x) ∷ []) (times_condition i n d) → Holds (ws ++ x ∷ []) d
    scaled n p e k = times_meets n d.kind (value d (ws ++ x ∷ [])) p (subst (Meets (kind_times n d.kind)) e k)

-- ---- the added constraint, and the whole system

divides-value : (i c : ℕ) (ws : List ℤ) (y : ℤ) → length ws ≡ i → value (divides_condition i c) (ws ++ y ∷ []) ≡ y
unfolding divides_condition
divides-value i c ws y h = omega (arith, ints, push-value (replicate i (pos 0)) ws i (pos 1) y (length-replicate i (pos 0)) h, dot-zeros i ws)

divides_in : (i c : ℕ) (ws : List ℤ) (x y : ℤ) → length ws ≡ i → y ≡ pos c *ℤ x → Holds (ws ++ y ∷ []) (divides_condition i c)
unfolding divides_condition
divides_in i c ws x y h e = record { times = x; is = divides-value i c ws y h ∙ e }

pub divides_out : (i c : ℕ) (ws : List ℤ) (y : ℤ) → length ws ≡ i → Holds (ws ++ y ∷ []) (divides_condition i c) → (x : ℤ) × (y ≡ pos c *ℤ x)
unfolding divides_condition
divides_out i c ws y h d = (d.times, sym (divides-value i c ws y h) ∙ d.is)

-- a solution stays one, with c times variable i
pub unit_all_in : (i c : ℕ) (S : List Condition) (ws : List ℤ) (x : ℤ) → length ws ≡ i → 0 < c → All (HasWidth (i + 1)) S → All (IsCommonAt i c) S → Solves (ws ++ x ∷ []) S → Solves (ws ++ (pos c *ℤ x) ∷ []) (unit_all i c S)
unfolding unit_all
unit_all_in i c S ws x h some wide common s =
    let y = pos c *ℤ x in
    All-append (Holds (ws ++ y ∷ [])) (map (unit i c) S) (divides_condition i c ∷ [])
    (All-map (Holds (ws ++ y ∷ [])) (unit i c) S (λ k d l. unit_in i c (slice_index_or S k d) ws x h (wide k d l) some (common k d l) (s k d l)))
    (All-cons (Holds (ws ++ y ∷ [])) (divides_condition i c) [] (divides_in i c ws x y h refl) (All-nil (Holds (ws ++ y ∷ []))))

-- and each solution comes from one
pub unit_all_out : (i c : ℕ) (S : List Condition) (ws : List ℤ) (y : ℤ) → length ws ≡ i → 0 < c → All (HasWidth (i + 1)) S → All (IsCommonAt i c) S → Solves (ws ++ y ∷ []) (unit_all i c S) → (x : ℤ) × (y ≡ pos c *ℤ x) × Solves (ws ++ x ∷ []) S
unfolding unit_all
unit_all_out i c S ws y h some wide common s =
    let last = All-contains (Holds (ws ++ y ∷ [])) (map (unit i c) S ++ (divides_condition i c ∷ [])) (divides_condition i c) s (Contains-push (map (unit i c) S) (divides_condition i c)) in
    let r = divides_out i c ws y h last in
    let first = all_unmap (Holds (ws ++ y ∷ [])) (unit i c) S (all_left (Holds (ws ++ y ∷ [])) (map (unit i c) S) (divides_condition i c) s) in
    (r.0, r.1, λ k d l. unit_out i c (slice_index_or S k d) ws r.0 h (wide k d l) some (common k d l) (subst (λ z. Holds (ws ++ z ∷ []) (unit i c (slice_index_or S k d))) r.1 (first k d l)))

-- a system is solvable exactly where its first part's outcome is
pub unit_all_solvable : (i c : ℕ) (S : List Condition) → 0 < c → All (HasWidth (i + 1)) S → All (IsCommonAt i c) S → IsSolvable (i + 1) S → IsSolvable (i + 1) (unit_all i c S)
unit_all_solvable i c S some wide common s =
    let r = last_of i s.0 s.1 in
    (r.0 ++ (pos c *ℤ r.1) ∷ [], length_push r.0 (pos c *ℤ r.1) i r.2, unit_all_in i c S r.0 r.1 r.2 some wide common (subst (λ w. Solves w S) r.3 s.2))
  where
    length_push : (ws : List ℤ) (x : ℤ) (i : ℕ) → length ws ≡ i → length (ws ++ x ∷ []) ≡ i + 1
    length_push ws x i e = omega (arith, length-append ws (x ∷ []))

-- ---- what the first part makes true

pub last_is : (f : List ℤ) (s : ℤ) (i : ℕ) → length f ≡ i → get_or (f ++ s ∷ []) i (pos 0) ≡ s
last_is [] s zero e = refl
last_is [] s (suc i) e = absurd (omega arith)
last_is (a ∷ f) s zero e = absurd (omega arith)
last_is (a ∷ f) s (suc i) e = last_is f s i (omega arith)

sign_unit : (a : ℤ) → (pos 0 <ℤ sign a → sign a ≡ pos 1) × (sign a <ℤ pos 0 → sign a ≡ negsuc 0)
sign_unit (pos zero) = (λ h. absurd (omega (arith, ints)), λ h. absurd (omega (arith, ints)))
sign_unit (pos (suc n)) = (λ h. refl, λ h. absurd (omega (arith, ints)))
sign_unit (negsuc n) = (λ h. absurd (omega (arith, ints)), λ h. refl)

pub times_lead : (i k : ℕ) (d : Condition) → HasWidth (i + 1) d → lead i (times_condition i k d) ≡ sign (lead i d)
unfolding times_condition
times_lead i k d w = last_is (map (λ a. pos k *ℤ a) (take i d.coefficients)) (sign (lead i d)) i (length-map (take i d.coefficients) (λ a. pos k *ℤ a) ∙ front_length i d.coefficients w)

abbrev UnitNumber : ℤ → Type 0
UnitNumber a = (pos 0 <ℤ a → a ≡ pos 1) × (a <ℤ pos 0 → a ≡ negsuc 0)

pub unit_is_unit : (i c : ℕ) (d : Condition) → HasWidth (i + 1) d → IsUnitAt i (unit i c d)
unit_is_unit i c d w _ = unit_cases (λ u. UnitNumber (lead i u)) i c d
    (λ e. subst UnitNumber (sym e) (sign_unit (pos 0)))
    (λ p. subst UnitNumber (sym (times_lead i (c / unsigned_abs (lead i d)) d w)) (sign_unit (lead i d)))

pub unit_width : (i c : ℕ) (d : Condition) → HasWidth (i + 1) d → HasWidth (i + 1) (unit i c d)
unfolding times_condition
unit_width i c d w = unit_cases (HasWidth (i + 1)) i c d (λ e. w) (λ p. omega (arith, length-append (map (λ a. pos (c / unsigned_abs (lead i d)) *ℤ a) (take i d.coefficients)) (sign (lead i d) ∷ []), length-map (take i d.coefficients) (λ a. pos (c / unsigned_abs (lead i d)) *ℤ a), front_length i d.coefficients w))

pub unit_all_unit : (i c : ℕ) (S : List Condition) → All (HasWidth (i + 1)) S → All (IsUnitAt i) (unit_all i c S)
unfolding unit_all divides_condition
unit_all_unit i c S wide = All-append (IsUnitAt i) (map (unit i c) S) (divides_condition i c ∷ [])
    (All-map (IsUnitAt i) (unit i c) S (λ k d l. unit_is_unit i c (slice_index_or S k d) (wide k d l)))
    (All-cons (IsUnitAt i) (divides_condition i c) [] (λ e. absurd (other c e)) (All-nil (IsUnitAt i)))
  where
    other : (c : ℕ) → DividedBy c ≡ AtLeastZero → ⊥
    other c e = cc

pub unit_all_width : (i c : ℕ) (S : List Condition) → All (HasWidth (i + 1)) S → All (HasWidth (i + 1)) (unit_all i c S)
unfolding unit_all divides_condition
unit_all_width i c S wide = All-append (HasWidth (i + 1)) (map (unit i c) S) (divides_condition i c ∷ [])
    (All-map (HasWidth (i + 1)) (unit i c) S (λ k d l. unit_width i c (slice_index_or S k d) (wide k d l)))
    (All-cons (HasWidth (i + 1)) (divides_condition i c) [] (omega (arith, length-append (replicate i (pos 0)) (pos 1 ∷ []), length-replicate i (pos 0))) (All-nil (HasWidth (i + 1))))
