-- Remainders by a number that is at least 1.
use Rattle.std.proofs.Common.{◌≡◌, ◌≢◌, ℕ, ◌*◌, ◌<◌, ◌/◌, ◌%◌, ◌==◌, true, sym, ◌∙◌, ap, arith}
use Rattle.std.proofs.Math.IntN.{ℤ, pos, ◌+ℤ◌, ◌-ℤ◌, ◌*ℤ◌, neg_ℤ}
use Rattle.std.proofs.Math.Nat.{div-add-mod'}
use Rattle.std.specs.Prelude.{◌<ℤ◌}
use Rattle.std.specs.Int.{int_div_euclid, int_rem_euclid}
use Rattle.std.proofs.lemmas.Int.{ints}
use Rattle.std.proofs.lemmas.Bool.{eqb-true}
use Rattle.math_int.proofs.Laws.{times-add, add-times, times-assoc, times-neg}
use Rattle.math_int.proofs.Floors.{euclid, euclid_range, floor_even, floor_once}
use Rattle.model_form.specs.Form.{modulo}

-- numbers that a multiple of k parts
pub modulo_apart : (k : ℕ) (a b q : ℤ) → 0 < k → a ≡ b +ℤ (pos k *ℤ q) → modulo a k ≡ modulo b k
modulo_apart k a b q h e =
    let some : pos 0 <ℤ pos k = omega (arith, ints) in
    let not : pos k ≢ pos 0 = λ z. omega (arith, ints) in
    let p = int_div_euclid a (pos k) in
    let r = int_div_euclid b (pos k) in
    let ea = euclid a (pos k) not in
    let eb = euclid b (pos k) not in
    let split : pos k *ℤ (p -ℤ q) ≡ (pos k *ℤ p) +ℤ (pos k *ℤ neg_ℤ q) = times-add (pos k) p (neg_ℤ q) in
    let back : pos k *ℤ neg_ℤ q ≡ neg_ℤ (pos k *ℤ q) = times-neg (pos k) q in
    let over : b ≡ (pos k *ℤ (p -ℤ q)) +ℤ int_rem_euclid a (pos k) = omega (arith, ints) in
    let one = floor_once b (pos k) (p -ℤ q) r not
    (floor_even b (pos k) (p -ℤ q) (int_rem_euclid a (pos k)) over (λ _. euclid_range a (pos k) some) (λ n. absurd (omega (arith, ints))))
    (floor_even b (pos k) r (int_rem_euclid b (pos k)) eb (λ _. euclid_range b (pos k) some) (λ n. absurd (omega (arith, ints)))) in
    let times = ap (λ z. pos k *ℤ z) one in
    omega (arith, ints)

-- a number is its remainder and a multiple
pub modulo_out : (k : ℕ) (a : ℤ) → 0 < k → a ≡ modulo a k +ℤ (pos k *ℤ int_div_euclid a (pos k))
modulo_out k a h = let e = euclid a (pos k) (λ z. omega (arith, ints)) in omega (arith, ints)

pub modulo_twice : (k : ℕ) (a : ℤ) → 0 < k → modulo (modulo a k) k ≡ modulo a k
modulo_twice k a h = sym (modulo_apart k a (modulo a k) (int_div_euclid a (pos k)) h (modulo_out k a h))

-- numbers with one remainder are parted by a multiple
pub apart_by : (k : ℕ) (a b : ℤ) → 0 < k → modulo a k ≡ modulo b k → (q : ℤ) × (a ≡ b +ℤ (pos k *ℤ q))
apart_by k a b h e =
    let p = int_div_euclid a (pos k) in
    let r = int_div_euclid b (pos k) in
    let x = modulo_out k a h in
    let y = modulo_out k b h in
    let split = times-add (pos k) p (neg_ℤ r) in
    let back = times-neg (pos k) r in
    (p -ℤ r, omega (arith, ints))

pub modulo_sum : (k : ℕ) (a b c d : ℤ) → 0 < k → modulo a k ≡ modulo b k → modulo c k ≡ modulo d k → modulo (a +ℤ c) k ≡ modulo (b +ℤ d) k
modulo_sum k a b c d h e f =
    let x = apart_by k a b h e in
    let y = apart_by k c d h f in
    let xe = x.1 in
    let ye = y.1 in
    let split = times-add (pos k) x.0 y.0 in
    modulo_apart k (a +ℤ c) (b +ℤ d) (x.0 +ℤ y.0) h (omega (arith, ints))

pub modulo_product : (k : ℕ) (a b c : ℤ) → 0 < k → modulo a k ≡ modulo b k → modulo (a *ℤ c) k ≡ modulo (b *ℤ c) k
modulo_product k a b c h e =
    let x = apart_by k a b h e in
    modulo_apart k (a *ℤ c) (b *ℤ c) (x.0 *ℤ c) h
    (ap (λ z. z *ℤ c) x.1 ∙ add-times c b (pos k *ℤ x.0) ∙ ap (λ z. (b *ℤ c) +ℤ z) (times-assoc (pos k) x.0 c))

-- a remainder by a multiple of k has the number's remainder by k
pub modulo_of_multiple : (k m : ℕ) (a : ℤ) → 0 < k → 0 < m → (m % k == 0) ≡ true → modulo (modulo a m) k ≡ modulo a k
modulo_of_multiple k m a h g e =
    let z : m % k ≡ 0 = eqb-true (m % k) 0 e in
    let d = div-add-mod' m k in
    let whole : m ≡ k * (m / k) = omega arith in
    let q = int_div_euclid a (pos m) in
    let times : pos m *ℤ q ≡ pos k *ℤ (pos (m / k) *ℤ q) = ap (λ n. pos n *ℤ q) whole ∙ times-assoc (pos k) (pos (m / k)) q in
    sym (modulo_apart k a (modulo a m) (pos (m / k) *ℤ q) h (modulo_out m a g ∙ ap (λ y. modulo a m +ℤ y) times))
