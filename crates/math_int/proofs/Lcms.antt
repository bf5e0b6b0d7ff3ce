-- The least common multiple, from the greatest common divisor.
use Rattle.std.proofs.Common.{◌≡◌, ℕ, zero, suc, ◌*◌, ◌/◌, ◌%◌, ◌<◌, ◌⊎◌, inl, inr, arith, refl, ap, sym, ◌∙◌, subst}
use Rattle.std.specs.Int.{IsGcd, ◌∣◌}
use Rattle.std.proofs.Math.Nat.{mod-lt, mul_comm, dvd_trans, dvd-mul_left, dvd-mul_right, mul-dvd-mul_left, dvd_of_mul-dvd-mul_left, dvd_antisymm, mul-div_cancel', div-mul_cancel, dvd_of_mul-dvd-mul_right, mul-dvd-mul_right, eq-zero_of_zero-dvd, dvd-zero}
use Rattle.std.proofs.lemmas.Nat.Gcd.{IsGcd-from_zero, IsGcd-from_mod}
use Rattle.math_int.specs.Whole.{IsLcm}

-- every two numbers have a greatest common divisor
pub gcd_by : (fuel a b : ℕ) → b < fuel → (g : ℕ) × IsGcd a b g
gcd_by zero a b h = absurd (omega arith)
gcd_by (suc f) a zero h = (a, IsGcd-from_zero a zero refl)
gcd_by (suc f) a (suc b) h = let small = mod-lt a {m = suc b} (omega arith) in let r = gcd_by f (suc b) (a % suc b) (omega arith) in (r.0, IsGcd-from_mod a (suc b) r.0 r.1)

-- m times the numbers have m times the divisor
pub gcd_times : (a b g m h : ℕ) → 0 < m → IsGcd a b g → IsGcd (m * a) (m * b) h → h ∣ m * g
gcd_times a b g m h some f k =
    let part : m ∣ h = k.2 m (dvd-mul_right m a) (dvd-mul_right m b) in
    let e : m * (h / m) ≡ h = mul-div_cancel' m part in
    let into_a : m * (h / m) ∣ m * a = subst (λ n. n ∣ m * a) (sym e) k.0 in
    let into_b : m * (h / m) ∣ m * b = subst (λ n. n ∣ m * b) (sym e) k.1 in
    let r : h / m ∣ g = f.2 (h / m) (dvd_of_mul-dvd-mul_left (h / m) some into_a) (dvd_of_mul-dvd-mul_left (h / m) some into_b) in
    subst (λ n. n ∣ m * g) e (mul-dvd-mul_left (h / m) m r)

-- `a / g * b` is the least common multiple
pub lcm_is : (a b g : ℕ) → 0 < g → IsGcd a b g → IsLcm a b (a / g * b)
lcm_is a b g some f =
    let ea : a / g * g ≡ a = div-mul_cancel g f.0 in
    let eb : b / g * g ≡ b = div-mul_cancel g f.1 in
    let whole : a / g * b ≡ a * (b / g) = ap (λ n. a / g * n) (sym eb) ∙ mixed (a / g) (b / g) g ∙ ap (λ n. n * (b / g)) ea in
    let times : (a / g * b) * g ≡ a * b = turned (a / g) b g ∙ ap (λ n. n * b) ea in
    (subst (λ n. a ∣ n) (sym whole) (dvd-mul_right a (b / g)), dvd-mul_left b (a / g), λ m p q. by m p q times (zero_cases m))
  where
    mixed : (x y z : ℕ) → x * (y * z) ≡ (x * z) * y
    mixed x y z = omega arith

    turned : (x y z : ℕ) → (x * y) * z ≡ (x * z) * y
    turned x y z = omega arith

    zero_cases : (m : ℕ) → (m ≡ 0) ⊎ (0 < m)
    zero_cases zero = inl refl
    zero_cases (suc m) = inr (omega arith)

    by : (m : ℕ) → a ∣ m → b ∣ m → (a / g * b) * g ≡ a * b → (m ≡ 0) ⊎ (0 < m) → (a / g * b) ∣ m
    by m p q t (inl z) = subst (λ n. (a / g * b) ∣ n) (sym z) (dvd-zero (a / g * b))
    by m p q t (inr some_m) =
        let h = gcd_by (suc (m * b)) (m * a) (m * b) (omega arith) in
        let into_a : a * b ∣ m * a = subst (λ n. a * b ∣ n) (mul_comm a m) (mul-dvd-mul_left b a q) in
        let into_b : a * b ∣ m * b = mul-dvd-mul_right a p b in
        let r : a * b ∣ m * g = dvd_trans (a * b) (h.1.2 (a * b) into_a into_b) (gcd_times a b g m h.0 some_m f h.1) in
        dvd_of_mul-dvd-mul_right (a / g * b) some (subst (λ n. n ∣ m * g) (sym t) r)

-- two numbers have one least common multiple
pub lcm_once : (a b l k : ℕ) → IsLcm a b l → IsLcm a b k → l ≡ k
lcm_once a b l k f g = dvd_antisymm (f.2 k g.0 g.1) (g.2 l f.0 f.1)

pub gcd_some : (a b g : ℕ) → (a ≡ 0 → ⊥) → IsGcd a b g → 0 < g
gcd_some a b zero n f = absurd (n (eq-zero_of_zero-dvd f.0))
gcd_some a b (suc g) n f = omega arith

pub lcm_zero : (b : ℕ) → IsLcm 0 b 0
lcm_zero b = (dvd-zero 0, dvd-zero b, λ m p q. p)
