-- One number more under a least common multiple.
use Rattle.std.proofs.Common.{◌≡◌, ℕ, zero, suc, ◌+◌, ◌*◌, ◌/◌, ◌^◌, ◌<◌, ◌≤◌, List, [], ◌∷◌, length, take, get_or, arith, refl, sym, subst, ◌∙◌}
use Rattle.std.proofs.Math.IntN.{ℤ, pos, negsuc}
use Rattle.std.specs.Prelude.{unsigned_abs, ◌≤ℤ◌, ◌<ℤ◌}
use Rattle.std.proofs.lemmas.Int.{ints}
use Rattle.std.specs.Int.{◌∣◌}
use Rattle.std.specs.List.{All}
use Rattle.std.proofs.Math.Nat.{dvd_trans, dvd-mul_right, dvd-mul_left, pos_of_dvd_of_pos, one-dvd}
use Rattle.std.proofs.lemmas.Nat.Gcd.{le_of_dvd, dvd_refl}
use Rattle.std.proofs.lemmas.List.{length-take, get_or-take}
use Rattle.std.proofs.lemmas.List.Elements.{All-nil, All-cons, All-head, All-tail, All-more, All-take}
use Rattle.math_cooper.specs.Puts.{Least}
use Rattle.math_cooper.proofs.Composition.{least_once, by_times}
use Rattle.math_int.specs.Whole.{IsLcm}
use Rattle.math_int.proofs.Lcms.{gcd_by, lcm_is, gcd_some}
use Rattle.cooper_solve.specs.Multiples.{IsLeastMultiple, IsBeyond}

abs_some : (a : ℤ) → (a ≡ pos 0 → ⊥) → 0 < unsigned_abs a
abs_some (pos zero) n = absurd (n refl)
abs_some (pos (suc k)) n = omega arith
abs_some (negsuc k) n = omega arith

front_all : (P : ℤ → Type 0) (numbers : List ℤ) (k : ℕ) → All P (take (k + 1) numbers) → k < length numbers → All P (take k numbers)
front_all P numbers k h l j d less =
    let lt : j < length (take (k + 1) numbers) = omega (arith, length-take k numbers, length-take (k + 1) numbers) in
    let jk : j < k = omega (arith, length-take k numbers) in
    subst P (get_or-take (k + 1) numbers j d (omega arith) ∙ sym (get_or-take k numbers j d jk)) (h j d lt)

last_all : (P : ℤ → Type 0) (numbers : List ℤ) (k : ℕ) (d : ℤ) → k < length numbers → All P (take (k + 1) numbers) → P (get_or numbers k d)
last_all P numbers k d l h =
    let lt : k < length (take (k + 1) numbers) = omega (arith, length-take (k + 1) numbers) in
    subst P (get_or-take (k + 1) numbers k d (omega arith)) (h k d lt)

pub none_least : (numbers : List ℤ) → IsLeastMultiple (take 0 numbers) 1
none_least numbers = record { some = omega arith; to = λ m h. All-nil (λ n. unsigned_abs n ∣ m); from = λ m h. one-dvd m }

pub one_more : (numbers : List ℤ) (k all next : ℕ) (n : ℤ) → k < length numbers → n ≡ get_or numbers k n → (n ≡ pos 0 → ⊥) → IsLcm all (unsigned_abs n) next → IsLeastMultiple (take k numbers) all → IsLeastMultiple (take (k + 1) numbers) next
one_more numbers k all next n l e not lcm least =
    record {
      some = pos_of_dvd_of_pos (lcm.2 (all * unsigned_abs n) (dvd-mul_right all (unsigned_abs n)) (dvd-mul_left (unsigned_abs n) all)) (by_times all (unsigned_abs n) least.some (abs_some n not));
      to = λ m h. All-more (λ x. unsigned_abs x ∣ m) numbers k n l (least.to m (dvd_trans all lcm.0 h)) (subst (λ x. unsigned_abs x ∣ m) e (dvd_trans (unsigned_abs n) lcm.1 h));
      from = λ m h. lcm.2 m (least.from m (front_all (λ x. unsigned_abs x ∣ m) numbers k h l)) (subst (λ x. unsigned_abs x ∣ m) (sym e) (last_all (λ x. unsigned_abs x ∣ m) numbers k n l h));
    }

lcm_some : (a b : ℕ) → 0 < a → (l : ℕ) × IsLcm a b l
lcm_some a b p =
    let g = gcd_by (suc b) a b (omega arith) in
    (a / g.0 * b, lcm_is a b g.0 (gcd_some a b g.0 (λ e. omega arith) g.1) g.1)

-- the multiple of all is a multiple of that of some
pub beyond_all : (numbers : List ℤ) (k all : ℕ) (n : ℤ) → k < length numbers → n ≡ get_or numbers k n → IsLeastMultiple (take k numbers) all → ((l : ℕ) → IsLcm all (unsigned_abs n) l → 2 ^ 127 ≤ l) → IsBeyond numbers
beyond_all numbers k all n l e least none whole w =
    let next = lcm_some all (unsigned_abs n) least.some in
    let own = w.to whole (dvd_refl whole) in
    let first : all ∣ whole = least.from whole (All-take (λ x. unsigned_abs x ∣ whole) k numbers own) in
    let second : unsigned_abs n ∣ whole = subst (λ x. unsigned_abs x ∣ whole) (sym e) (own k n l) in
    let below = le_of_dvd w.some (next.1.2 whole first second) in
    let wide = none next.0 next.1 in
    omega arith

pub left_some : (z : ℤ) → pos 0 ≤ℤ z → 0 < unsigned_abs z → pos 0 <ℤ z
left_some (pos n) h p = omega (arith, ints)
left_some (negsuc n) h p = absurd (omega (arith, ints))

pub multiple_exists : (numbers : List ℤ) → All (λ n. n ≡ pos 0 → ⊥) numbers → (l : ℕ) × IsLeastMultiple numbers l
multiple_exists [] h = (1, record { some = omega arith; to = λ m k. All-nil (λ n. unsigned_abs n ∣ m); from = λ m k. one-dvd m })
multiple_exists (n ∷ numbers) h =
    let rest = multiple_exists numbers (All-tail (λ n. n ≡ pos 0 → ⊥) n numbers h) in
    let own = abs_some n (All-head (λ n. n ≡ pos 0 → ⊥) n numbers h) in
    let both = lcm_some (unsigned_abs n) rest.0 own in (
      both.0,
      record {
        some = pos_of_dvd_of_pos (both.1.2 (unsigned_abs n * rest.0) (dvd-mul_right (unsigned_abs n) rest.0) (dvd-mul_left rest.0 (unsigned_abs n))) (by_times (unsigned_abs n) rest.0 own rest.1.some);
        to = λ m k. All-cons (λ n. unsigned_abs n ∣ m) n numbers (dvd_trans (unsigned_abs n) both.1.0 k) (rest.1.to m (dvd_trans rest.0 both.1.1 k));
        from = λ m k. both.1.2 m (All-head (λ n. unsigned_abs n ∣ m) n numbers k) (rest.1.from m (All-tail (λ n. unsigned_abs n ∣ m) n numbers k));
      },
    )

-- where the multiples of the numbers are the numbers with P, their least common multiple is the least with P
pub least_with : (P : ℕ → Type 0) (numbers : List ℤ) (l : ℕ) → ((m : ℕ) → P m → All (λ n. unsigned_abs n ∣ m) numbers) → ((m : ℕ) → All (λ n. unsigned_abs n ∣ m) numbers → P m) → IsLeastMultiple numbers l → Least P l
least_with P numbers l out in' h = (h.some, in' l (h.to l (dvd_refl l)), λ m p q. le_of_dvd p (h.from m (out m q)))

pub beyond_with : (P : ℕ → Type 0) (numbers : List ℤ) → All (λ n. n ≡ pos 0 → ⊥) numbers → ((m : ℕ) → P m → All (λ n. unsigned_abs n ∣ m) numbers) → ((m : ℕ) → All (λ n. unsigned_abs n ∣ m) numbers → P m) → IsBeyond numbers → (l : ℕ) → Least P l → 2 ^ 127 ≤ l
beyond_with P numbers some out in' beyond l h =
    let e = multiple_exists numbers some in
    let same : e.0 ≡ l = least_once P e.0 l (least_with P numbers e.0 out in' e.1) h in
    subst (λ n. 2 ^ 127 ≤ n) same (beyond e.0 e.1)
