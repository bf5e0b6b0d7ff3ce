-- Quotients rounded down.
use Rattle.std.proofs.Common.{◌≡◌, ◌≢◌, ℕ, zero, suc, ◌/◌, arith, refl, sym, ◌∙◌}
use Rattle.std.proofs.Math.IntN.{ℤ, pos, negsuc, ◌+ℤ◌, ◌-ℤ◌, ◌*ℤ◌, neg_ℤ}
use Rattle.std.proofs.Math.Nat.{mod-lt, div-add-mod'}
use Rattle.std.specs.Prelude.{◌≤ℤ◌, ◌<ℤ◌}
use Rattle.std.specs.Int.{int_div_euclid, int_rem_euclid}
use Rattle.std.proofs.lemmas.Int.{ints, by_lt_z}
use Rattle.math_int.specs.Whole.{IsFloor}
use Rattle.math_int.proofs.Laws.{times-add, times-le, times-neg, neg-times}

-- a is b times its quotient and its remainder
pub euclid : (a b : ℤ) → b ≢ pos 0 → a ≡ (b *ℤ int_div_euclid a b) +ℤ int_rem_euclid a b
euclid (pos a) (pos b) n = omega (arith, ints, div-add-mod' a b)
euclid (pos a) (negsuc b) n = omega (arith, ints, div-add-mod' a (suc b), times-neg (negsuc b) (pos (a / suc b)))
euclid (negsuc a) (pos zero) n = absurd (n refl)
euclid (negsuc a) (pos (suc b)) n = let small = mod-lt a {m = suc b} (omega arith) in omega (arith, ints, div-add-mod' a (suc b))
euclid (negsuc a) (negsuc b) n = let small = mod-lt a {m = suc b} (omega arith) in omega (arith, ints, div-add-mod' a (suc b))

-- ---- one quotient

not_zero_over : (b : ℤ) → pos 0 <ℤ b → (k : ℕ) × (b ≡ pos (suc k))
not_zero_over (pos zero) h = absurd (omega (arith, ints))
not_zero_over (pos (suc k)) h = (k, refl)
not_zero_over (negsuc k) h = absurd (omega (arith, ints))

one_below : (k : ℕ) (p q r s : ℤ) → (pos (suc k) *ℤ p) +ℤ r ≡ (pos (suc k) *ℤ q) +ℤ s → pos 0 ≤ℤ r → s <ℤ pos (suc k) → p ≤ℤ q
one_below k p q r s e lo hi = by_lt_z q p
    (λ l. let m = times-le (suc k) (q +ℤ pos 1) p (omega (arith, ints)) in let t = times-add (pos (suc k)) q (pos 1) in absurd (omega (arith, ints)))
    (λ l. l)

floor_over : (k : ℕ) (a p q : ℤ) → IsFloor a (pos (suc k)) p → IsFloor a (pos (suc k)) q → p ≡ q
floor_over k a p q f g =
    let some : pos 0 <ℤ pos (suc k) = omega (arith, ints) in
    let fr = f.over some in
    let gr = g.over some in
    let e = sym f.is ∙ g.is in
    let le = one_below k p q f.left g.left e fr.0 gr.1 in
    let ge = one_below k q p g.left f.left (sym e) gr.0 fr.1 in
    omega (arith, ints)

turn_floor : (a b q : ℤ) → IsFloor a b q → IsFloor (neg_ℤ a) (neg_ℤ b) q
turn_floor a b q f = record {
  left = neg_ℤ f.left;
  is = let e = f.is in let t = neg-times b q in omega (arith, ints);
  over = λ h. let r = f.under (omega (arith, ints)) in (omega (arith, ints), omega (arith, ints));
  under = λ h. let r = f.over (omega (arith, ints)) in (omega (arith, ints), omega (arith, ints));
}

pub floor_once : (a b p q : ℤ) → b ≢ pos 0 → IsFloor a b p → IsFloor a b q → p ≡ q
floor_once a (pos zero) p q n f g = absurd (n refl)
floor_once a (pos (suc k)) p q n f g = floor_over k a p q f g
floor_once a (negsuc k) p q n f g = floor_over k (neg_ℤ a) p q (turn_floor a (negsuc k) p f) (turn_floor a (negsuc k) q g)

-- ---- quotients that are floors

pub floor_minus_one : (a : ℤ) → IsFloor a (negsuc 0) (neg_ℤ a)
floor_minus_one a = record { left = pos 0; is = omega (arith, ints); over = λ h. absurd (omega (arith, ints)); under = λ h. (omega (arith, ints), omega (arith, ints)) }

pub floor_less : (a b q r : ℤ) → a ≡ (b *ℤ q) +ℤ r → b <ℤ pos 0 → pos 0 <ℤ r → r <ℤ neg_ℤ b → IsFloor a b (q -ℤ pos 1)
floor_less a b q r e s lo hi = record { left = r +ℤ b; is = let t = times-add b q (negsuc 0) in omega (arith, ints); over = λ h. absurd (omega (arith, ints)); under = λ h. (omega (arith, ints), omega (arith, ints)) }

pub floor_even : (a b q r : ℤ) → a ≡ (b *ℤ q) +ℤ r → (pos 0 <ℤ b → (pos 0 ≤ℤ r) × (r <ℤ b)) → (b <ℤ pos 0 → r ≡ pos 0) → IsFloor a b q
floor_even a b q r e over under = record { left = r; is = e; over = over; under = λ h. let z = under h in (omega (arith, ints), omega (arith, ints)) }

pub euclid_range : (a b : ℤ) → pos 0 <ℤ b → (pos 0 ≤ℤ int_rem_euclid a b) × (int_rem_euclid a b <ℤ b)
euclid_range (pos a) (pos b) h = let s = mod-lt a {m = b} (omega (arith, ints)) in (omega (arith, ints), omega (arith, ints))
euclid_range (negsuc a) (pos b) h = let s = mod-lt a {m = b} (omega (arith, ints)) in (omega (arith, ints), omega (arith, ints))
euclid_range (pos a) (negsuc b) h = absurd (omega (arith, ints))
euclid_range (negsuc a) (negsuc b) h = absurd (omega (arith, ints))
