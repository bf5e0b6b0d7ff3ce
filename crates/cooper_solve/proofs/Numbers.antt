-- The numbers of a step: c and D are least common multiples.
use Rattle.std.proofs.Common.{◌≡◌, ℕ, zero, suc, ◌^◌, ◌<◌, ◌≤◌, ◌⊎◌, inl, inr, ⊎_elim, List, map, get_or, arith, refl, sym, subst}
use Rattle.std.proofs.Math.IntN.{ℤ, pos, negsuc}
use Rattle.std.specs.Prelude.{unsigned_abs}
use Rattle.std.specs.Int.{◌∣◌}
use Rattle.std.specs.List.{All}
use Rattle.std.proofs.Math.Nat.{one-dvd}
use Rattle.std.proofs.lemmas.Int.{ints}
use Rattle.std.proofs.lemmas.List.Elements.{All-map}
use Rattle.math_cooper.specs.Line.{IsMultiple, Kind, AtLeastZero, DividedBy}
use Rattle.math_cooper.specs.System.{Condition, lead, IsCommonAt, RepeatsAt}
use Rattle.math_cooper.specs.Puts.{IsScale, IsPeriod}
use Rattle.math_cooper.proofs.Elimination.{all_unmap}
use Rattle.math_cooper.proofs.Composition.{dvd_of, multiple_of, divided_once}
use Rattle.cooper_solve.specs.Multiples.{IsLeastMultiple, IsBeyond}
use Rattle.cooper_solve.specs.Views.{unless_zero, divisor_of, scale_number, period_number, IsPositive}
use Rattle.cooper_solve.proofs.Multiples.{least_with, beyond_with}

-- ---- one number

abbrev NonZero : ℤ → Type 0
NonZero n = n ≡ pos 0 → ⊥

unless_some : (a n : ℤ) → (NonZero a → NonZero n) → NonZero (unless_zero a n)
unless_some (pos zero) n h e = omega (arith, ints)
unless_some (pos (suc k)) n h e = h (λ z. omega (arith, ints)) e
unless_some (negsuc k) n h e = h (λ z. omega (arith, ints)) e

-- a number divides all, or the one of a condition that has the variable
unless_out : (a n : ℤ) (m k : ℕ) → unsigned_abs n ≡ k → 0 < k → unsigned_abs (unless_zero a n) ∣ m → (a ≡ pos 0) ⊎ IsMultiple k m
unless_out (pos zero) n m k e p h = inl refl
unless_out (pos (suc j)) n m k e p h = inr (multiple_of k m p (subst (λ x. x ∣ m) e h))
unless_out (negsuc j) n m k e p h = inr (multiple_of k m p (subst (λ x. x ∣ m) e h))

unless_in : (a n : ℤ) (m k : ℕ) → unsigned_abs n ≡ k → (a ≡ pos 0) ⊎ IsMultiple k m → unsigned_abs (unless_zero a n) ∣ m
unless_in (pos zero) n m k e h = one-dvd m
unless_in (pos (suc j)) n m k e h = ⊎_elim (λ z. absurd (omega (arith, ints, z))) (λ d. subst (λ x. x ∣ m) (sym e) (dvd_of k m d)) h
unless_in (negsuc j) n m k e h = ⊎_elim (λ z. absurd (omega (arith, ints, z))) (λ d. subst (λ x. x ∣ m) (sym e) (dvd_of k m d)) h

-- ---- c

common_out : (i m : ℕ) (c : Condition) → unsigned_abs (scale_number i c) ∣ m → IsCommonAt i m c
common_out i m c h = by (lead i c) h
  where
    by : (a : ℤ) → unsigned_abs (unless_zero a a) ∣ m → (a ≡ pos 0) ⊎ IsMultiple (unsigned_abs a) m
    by (pos zero) h = inl refl
    by (pos (suc k)) h = inr (multiple_of (suc k) m (omega arith) h)
    by (negsuc k) h = inr (multiple_of (suc k) m (omega arith) h)

common_in : (i m : ℕ) (c : Condition) → IsCommonAt i m c → unsigned_abs (scale_number i c) ∣ m
common_in i m c h = unless_in (lead i c) (lead i c) m (unsigned_abs (lead i c)) refl h

scale_in : (i m : ℕ) (S : List Condition) → All (IsCommonAt i m) S → All (λ n. unsigned_abs n ∣ m) (map (scale_number i) S)
scale_in i m S h = All-map (λ n. unsigned_abs n ∣ m) (scale_number i) S (λ k d l. common_in i m (get_or S k d) (h k d l))

scale_out : (i m : ℕ) (S : List Condition) → All (λ n. unsigned_abs n ∣ m) (map (scale_number i) S) → All (IsCommonAt i m) S
scale_out i m S h k d l = common_out i m (get_or S k d) (all_unmap (λ n. unsigned_abs n ∣ m) (scale_number i) S h k d l)

pub scales_some : (i : ℕ) (S : List Condition) (numbers : List ℤ) → numbers ≡ map (scale_number i) S → All (λ n. n ≡ pos 0 → ⊥) numbers
scales_some i S numbers e = subst (All NonZero) (sym e) (All-map NonZero (scale_number i) S (λ k d l. let c = get_or S k d in unless_some (lead i c) (lead i c) (λ n. n)))

pub scale_is : (i : ℕ) (S : List Condition) (numbers : List ℤ) (l : ℕ) → numbers ≡ map (scale_number i) S → IsLeastMultiple numbers l → IsScale i S l
scale_is i S numbers l e h = least_with (λ m. All (IsCommonAt i m) S) (map (scale_number i) S) l (λ m. scale_in i m S) (λ m. scale_out i m S) (subst (λ ns. IsLeastMultiple ns l) e h)

pub scale_beyond : (i : ℕ) (S : List Condition) (numbers : List ℤ) → numbers ≡ map (scale_number i) S → IsBeyond numbers → (c : ℕ) → IsScale i S c → 2 ^ 127 ≤ c
scale_beyond i S numbers e h = beyond_with (λ m. All (IsCommonAt i m) S) (map (scale_number i) S) (scales_some i S (map (scale_number i) S) refl) (λ m. scale_in i m S) (λ m. scale_out i m S) (subst IsBeyond e h)

-- ---- D

abbrev DivisorIsPositive : Kind → Type 0
DivisorIsPositive k = (m : ℕ) → k ≡ DividedBy m → 0 < m

divisor_some : (k : Kind) → DivisorIsPositive k → NonZero (divisor_of k)
divisor_some AtLeastZero p e = omega (arith, ints)
divisor_some (DividedBy m) p e = let q = p m refl in omega (arith, ints)

no_divisor : (n : ℕ) (P : Type 0) → AtLeastZero ≡ DividedBy n → P
no_divisor n P e = cc

repeats_out : (m : ℕ) (a : ℤ) (k : Kind) → DivisorIsPositive k → unsigned_abs (unless_zero a (divisor_of k)) ∣ m → (n : ℕ) → k ≡ DividedBy n → (a ≡ pos 0) ⊎ IsMultiple n m
repeats_out m a AtLeastZero p h n e = no_divisor n ((a ≡ pos 0) ⊎ IsMultiple n m) e
repeats_out m a (DividedBy d) p h n e = unless_out a (pos d) m n (divided_once d n e) (p n e) h

repeats_in : (m : ℕ) (a : ℤ) (k : Kind) → ((n : ℕ) → k ≡ DividedBy n → (a ≡ pos 0) ⊎ IsMultiple n m) → unsigned_abs (unless_zero a (divisor_of k)) ∣ m
repeats_in m (pos zero) AtLeastZero h = one-dvd m
repeats_in m (pos (suc j)) AtLeastZero h = one-dvd m
repeats_in m (negsuc j) AtLeastZero h = one-dvd m
repeats_in m a (DividedBy d) h = unless_in a (pos d) m d refl (h d refl)

module _ (i : ℕ) (S : List Condition) (positive : All IsPositive S) where
  period_in : (m : ℕ) → All (RepeatsAt i m) S → All (λ n. unsigned_abs n ∣ m) (map (period_number i) S)
  period_in m h = All-map (λ n. unsigned_abs n ∣ m) (period_number i) S (λ k d l. let c = get_or S k d in repeats_in m (lead i c) c.kind (h k d l))

  period_out : (m : ℕ) → All (λ n. unsigned_abs n ∣ m) (map (period_number i) S) → All (RepeatsAt i m) S
  period_out m h k d l = let c = get_or S k d in repeats_out m (lead i c) c.kind (positive k d l) (all_unmap (λ n. unsigned_abs n ∣ m) (period_number i) S h k d l)

  pub periods_some : (numbers : List ℤ) → numbers ≡ map (period_number i) S → All (λ n. n ≡ pos 0 → ⊥) numbers
  periods_some numbers e = subst (All NonZero) (sym e) (All-map NonZero (period_number i) S (λ k d l. let c = get_or S k d in unless_some (lead i c) (divisor_of c.kind) (λ _. divisor_some c.kind (positive k d l))))

  pub period_is : (numbers : List ℤ) (l : ℕ) → numbers ≡ map (period_number i) S → IsLeastMultiple numbers l → IsPeriod i S l
  period_is numbers l e h = least_with (λ m. All (RepeatsAt i m) S) (map (period_number i) S) l (λ m. period_in m) (λ m. period_out m) (subst (λ ns. IsLeastMultiple ns l) e h)

  pub period_beyond : (numbers : List ℤ) → numbers ≡ map (period_number i) S → IsBeyond numbers → (D : ℕ) → IsPeriod i S D → 2 ^ 127 ≤ D
  period_beyond numbers e h = beyond_with (λ m. All (RepeatsAt i m) S) (map (period_number i) S) (periods_some (map (period_number i) S) refl) (λ m. period_in m) (λ m. period_out m) (subst IsBeyond e h)
