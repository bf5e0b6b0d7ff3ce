-- The steps of sums in limbs.
use Rattle.std.proofs.Common.{◌≡◌, ℕ, zero, suc, ◌+◌, ◌^◌, ◌<◌, ◌≤◌, List, [], ◌∷◌, length, take, get_or, add-one, take_all, arith, ap, sym, ◌∙◌, to_z, of_z, subst, true, false}
use Rattle.std.proofs.Math.IntN.{ℤ, pos, negsuc, neg_ℤ, ◌+ℤ◌, ◌*ℤ◌}
use Rattle.std.proofs.Math.Nat.{mul-le-mul}
use Rattle.std.specs.Prelude.{int_lt, ◌-ℤ◌, ◌≤ℤ◌, ◌<ℤ◌, unsigned_abs, FitsSigned}
use Rattle.std.specs.Int.{w64, w128}
use Rattle.std.proofs.lemmas.Int.{ints, unsigned_abs-mul, by_lt_z, to_z-of_z}
use Rattle.math_cooper.specs.System.{dot}
use Rattle.exact_quotient.specs.declared.Limbs.{Limbs}
use Rattle.exact_quotient.specs.Limbs.{IsSmall, IsWithin}
use Rattle.math_int.proofs.Laws.{add-times, times-assoc, neg-times, times-le, le-times}

pub product_small : (a b : ℤ) → (neg_ℤ (pos (2 ^ 43)) ≤ℤ a) × (a ≤ℤ pos (2 ^ 43)) → FitsSigned w64 b → (neg_ℤ (pos (2 ^ 106)) ≤ℤ (a *ℤ b)) × ((a *ℤ b) ≤ℤ pos (2 ^ 106))
product_small a b (lo, hi) g =
    let x : unsigned_abs a ≤ 2 ^ 43 = omega (arith, ints) in
    let y : unsigned_abs b ≤ 2 ^ 63 = omega (arith, ints) in
    let m = mul-le-mul x y in
    let e = unsigned_abs-mul a b in
    by (a *ℤ b) (omega arith)
  where
    by : (z : ℤ) → unsigned_abs z ≤ 2 ^ 106 → (neg_ℤ (pos (2 ^ 106)) ≤ℤ z) × (z ≤ℤ pos (2 ^ 106))
    by z h = (omega (arith, ints), omega (arith, ints))

pub sum_back : (a b : ℤ) → IsWithin 99 a → IsWithin 1 b → to_z w128 (of_z w128 (to_z w128 (of_z w128 a) +ℤ to_z w128 (of_z w128 b))) ≡ a +ℤ b
sum_back a b (l, h) (m, k) = omega (arith, ints)

pub plus_worth : (a v f k g m : ℤ) → a ≡ (pos (2 ^ 43) *ℤ f) +ℤ k → f ≡ (pos (2 ^ 43) *ℤ g) +ℤ m → ((pos (2 ^ 86) *ℤ (g *ℤ v)) +ℤ (pos (2 ^ 43) *ℤ (m *ℤ v))) +ℤ (k *ℤ v) ≡ a *ℤ v
plus_worth a v f k g m e d =
    let one = ap (λ z. z *ℤ v) e ∙ add-times v (pos (2 ^ 43) *ℤ f) k in
    let two = ap (λ z. z *ℤ v) d ∙ add-times v (pos (2 ^ 43) *ℤ g) m in
    let three = times-assoc (pos (2 ^ 43)) f v in
    let four = times-assoc (pos (2 ^ 43)) g v in
    omega (arith, ints)

pub within_more : (n : ℕ) (a b : ℤ) → IsWithin n a → IsWithin 1 b → IsWithin (suc n) (a +ℤ b)
within_more n a b (l, h) (m, k) = (omega (arith, ints), omega (arith, ints))

pub dot-more : (f vs : List ℤ) (i : ℕ) → i < length f → i < length vs → dot (take (suc i) f) (take (suc i) vs) ≡ dot (take i f) (take i vs) +ℤ (get_or f i (pos 0) *ℤ get_or vs i (pos 0))
unfolding dot
dot-more [] vs i p q = absurd (omega arith)
dot-more (a ∷ f) [] i p q = absurd (omega arith)
dot-more (a ∷ f) (v ∷ vs) zero p q = omega (arith, ints)
dot-more (a ∷ f) (v ∷ vs) (suc i) p q = let r = dot-more f vs i (omega arith) (omega arith) in omega (arith, ints)

-- where c * m < s, a solution of c * x = s is above m, and else it is m at most
pub above_middle : (c m x s : ℤ) → pos 0 <ℤ c → (c *ℤ m) <ℤ s → c *ℤ x ≡ s → m <ℤ x
above_middle (pos c) m x s p l e = by_lt_z m x (λ h. h) (λ h. let t = times-le c x m h in absurd (omega (arith, ints)))
above_middle (negsuc c) m x s p l e = absurd (omega (arith, ints))

pub not_above_middle : (c m x s : ℤ) → pos 0 <ℤ c → ((c *ℤ m) <ℤ s → ⊥) → c *ℤ x ≡ s → x ≤ℤ m
not_above_middle (pos c) m x s p l e = by_lt_z m x (λ h. absurd (l (by_lt_z (pos c *ℤ m) s (λ k. k) (λ k. let t = le-times c x m (omega (arith, ints)) (omega (arith, ints)) in absurd (omega (arith, ints)))))) (λ h. h)
not_above_middle (negsuc c) m x s p l e = absurd (omega (arith, ints))

pub top_small : (a f k g m : ℤ) → FitsSigned w128 a → a ≡ (pos (2 ^ 43) *ℤ f) +ℤ k → pos 0 ≤ℤ k → k <ℤ pos (2 ^ 43) → f ≡ (pos (2 ^ 43) *ℤ g) +ℤ m → pos 0 ≤ℤ m → m <ℤ pos (2 ^ 43) → (neg_ℤ (pos (2 ^ 43)) ≤ℤ g) × (g ≤ℤ pos (2 ^ 43))
top_small a f k g m fa e lo hi d l h = (omega (arith, ints), omega (arith, ints))

pub is_over_by : (c x s t : ℤ) → t ≡ s +ℤ (neg_ℤ c *ℤ x) → ((pos 0 <ℤ t) → (c *ℤ x) <ℤ s) × ((c *ℤ x) <ℤ s → pos 0 <ℤ t)
is_over_by c x s t e = let n = neg-times c x in (λ h. omega (arith, ints), λ h. omega (arith, ints))

pub worth_sum : (h m l x y z p : ℤ) → ((pos (2 ^ 86) *ℤ x) +ℤ (pos (2 ^ 43) *ℤ y)) +ℤ z ≡ p → ((pos (2 ^ 86) *ℤ (h +ℤ x)) +ℤ (pos (2 ^ 43) *ℤ (m +ℤ y))) +ℤ (l +ℤ z) ≡ (((pos (2 ^ 86) *ℤ h) +ℤ (pos (2 ^ 43) *ℤ m)) +ℤ l) +ℤ p
worth_sum h m l x y z p e = omega (arith, ints)

-- what carries leave: the same number in limbs, the lower two natural
pub carried : (h m l f k g n : ℤ) → IsWithin 99 h → IsWithin 99 m → IsWithin 99 l
    → to_z w128 (of_z w128 l) ≡ (pos (2 ^ 43) *ℤ f) +ℤ k → pos 0 ≤ℤ k → k <ℤ pos (2 ^ 43)
    → to_z w128 (of_z w128 (to_z w128 (of_z w128 m) +ℤ to_z w128 (of_z w128 f))) ≡ (pos (2 ^ 43) *ℤ g) +ℤ n → pos 0 ≤ℤ n → n <ℤ pos (2 ^ 43)
    → (to_z w128 (of_z w128 (to_z w128 (of_z w128 h) +ℤ to_z w128 (of_z w128 g))) ≡ h +ℤ g)
    × (((pos (2 ^ 86) *ℤ h) +ℤ (pos (2 ^ 43) *ℤ m)) +ℤ l ≡ ((pos (2 ^ 86) *ℤ (h +ℤ g)) +ℤ (pos (2 ^ 43) *ℤ n)) +ℤ k)
carried h m l f k g n (hl, hh) (ml, mh) (ll, lh) e klo khi d nlo nhi =
    let fl : FitsSigned w128 l = omega (arith, ints) in
    let e2 = sym (to_z-of_z w128 l fl) ∙ e in
    let sf : IsWithin 1 f = (omega (arith, ints, e2), omega (arith, ints, e2)) in
    let d2 = sym (sum_back m f (ml, mh) sf) ∙ d in
    let sg : IsWithin 1 g = (omega (arith, ints, d2), omega (arith, ints, d2)) in
    (sum_back h g (hl, hh) sg, carry h m l f k g n e2 d2)
  where
    carry : (h m l f k g n : ℤ) → l ≡ (pos (2 ^ 43) *ℤ f) +ℤ k → m +ℤ f ≡ (pos (2 ^ 43) *ℤ g) +ℤ n → ((pos (2 ^ 86) *ℤ h) +ℤ (pos (2 ^ 43) *ℤ m)) +ℤ l ≡ ((pos (2 ^ 86) *ℤ (h +ℤ g)) +ℤ (pos (2 ^ 43) *ℤ n)) +ℤ k
    carry h m l f k g n e d = omega (arith, ints)

pub more : (n : ℕ) (l : Limbs) → n ≤ 98 → IsSmall (suc n) l → IsSmall 99 l
more n l h ((a, b), (d, e), (f, g)) = ((omega (arith, ints), omega (arith, ints)), (omega (arith, ints), omega (arith, ints)), (omega (arith, ints), omega (arith, ints)))

pub never : false ≡ true → ⊥
never e = cc

pub above_1 : (t m k : ℤ) → pos 0 <ℤ t → pos 0 ≤ℤ m → pos 0 ≤ℤ k → pos 0 <ℤ (((pos (2 ^ 86) *ℤ t) +ℤ (pos (2 ^ 43) *ℤ m)) +ℤ k)
above_1 t m k a b d = omega (arith, ints)

pub above_2 : (t m k : ℤ) → pos 0 ≤ℤ t → pos 0 <ℤ m → pos 0 ≤ℤ k → pos 0 <ℤ (((pos (2 ^ 86) *ℤ t) +ℤ (pos (2 ^ 43) *ℤ m)) +ℤ k)
above_2 t m k a b d = omega (arith, ints)

pub above_3 : (t m k : ℤ) → pos 0 ≤ℤ t → pos 0 ≤ℤ m → pos 0 <ℤ k → pos 0 <ℤ (((pos (2 ^ 86) *ℤ t) +ℤ (pos (2 ^ 43) *ℤ m)) +ℤ k)
above_3 t m k a b d = omega (arith, ints)

pub not_above_1 : (t m k : ℤ) → t <ℤ pos 0 → m <ℤ pos (2 ^ 43) → k <ℤ pos (2 ^ 43) → pos 0 <ℤ (((pos (2 ^ 86) *ℤ t) +ℤ (pos (2 ^ 43) *ℤ m)) +ℤ k) → ⊥
not_above_1 t m k a b d h = omega (arith, ints)

pub not_above_2 : (t m k : ℤ) → t ≤ℤ pos 0 → m ≤ℤ pos 0 → k ≤ℤ pos 0 → pos 0 <ℤ (((pos (2 ^ 86) *ℤ t) +ℤ (pos (2 ^ 43) *ℤ m)) +ℤ k) → ⊥
not_above_2 t m k a b d h = omega (arith, ints)

pub between : (a b m : ℤ) → FitsSigned w64 a → FitsSigned w64 b → a ≤ℤ m → m <ℤ b → FitsSigned w64 m
between a b m f g h l = omega (arith, ints)

pub all_taken : (L : List ℤ) (k : ℕ) → length L ≤ k → take k L ≡ L
all_taken L k h = take_all k L h

pub neg_back : (c : ℤ) → FitsSigned w128 c → pos 0 <ℤ c → to_z w128 (of_z w128 (pos 0 -ℤ to_z w128 (of_z w128 c))) ≡ neg_ℤ c
neg_back c f p = omega (arith, ints)

pub turned_back : (z : ℤ) → IsWithin 99 z → to_z w128 (of_z w128 (pos 0 -ℤ to_z w128 (of_z w128 z))) ≡ neg_ℤ z
turned_back z (l, h) = omega (arith, ints)

pub turned_within : (z : ℤ) → IsWithin 9 z → IsWithin 9 (to_z w128 (of_z w128 (pos 0 -ℤ to_z w128 (of_z w128 z))))
turned_within z (l, h) = subst (IsWithin 9) (sym (turned_back z (omega (arith, ints), omega (arith, ints)))) (omega (arith, ints), omega (arith, ints))

pub turn_worth : (h m l : ℤ) → ((pos (2 ^ 86) *ℤ neg_ℤ h) +ℤ (pos (2 ^ 43) *ℤ neg_ℤ m)) +ℤ neg_ℤ l ≡ neg_ℤ (((pos (2 ^ 86) *ℤ h) +ℤ (pos (2 ^ 43) *ℤ m)) +ℤ l)
turn_worth h m l = omega (arith, ints)

pub is_under_by : (c x s t : ℤ) → t ≡ neg_ℤ s +ℤ (c *ℤ x) → ((pos 0 <ℤ t) → s <ℤ (c *ℤ x)) × (s <ℤ (c *ℤ x) → pos 0 <ℤ t)
is_under_by c x s t e = (λ h. omega (arith, ints), λ h. omega (arith, ints))

pub from_64 : (a : ℤ) → FitsSigned w64 a → to_z w128 (of_z w128 (to_z w64 (of_z w64 a))) ≡ a
from_64 a h = omega (arith, ints)

pub dot_step : (f vs : List ℤ) (i : ℕ) (k : ℤ) → i < length f → i < length vs → (dot (take i f) (take i vs) +ℤ k) +ℤ (get_or f i (pos 0) *ℤ get_or vs i (pos 0)) ≡ dot (take (i + 1) f) (take (i + 1) vs) +ℤ k
dot_step f vs i k hf hv =
    let more = dot-more f vs i hf hv in
    let last : dot (take (suc i) f) (take (suc i) vs) ≡ dot (take (i + 1) f) (take (i + 1) vs) = ap (λ n. dot (take n f) (take n vs)) (sym (add-one i)) in
    omega (arith, ints)

pub next_fits : (m h : ℤ) → FitsSigned w64 h → FitsSigned w64 m → m <ℤ h → (to_z w128 (of_z w128 (to_z w128 (of_z w128 m) +ℤ pos 1)) ≡ m +ℤ pos 1) × FitsSigned w64 (m +ℤ pos 1) × ((m +ℤ pos 1) ≤ℤ h)
next_fits m h f g l = (omega (arith, ints), omega (arith, ints), omega (arith, ints))

pub next_le : (m x : ℤ) → m <ℤ x → (m +ℤ pos 1) ≤ℤ x
next_le m x h = omega (arith, ints)

pub nearer_low : (l h m : ℤ) → l ≤ℤ m → m <ℤ h → unsigned_abs (h -ℤ (m +ℤ pos 1)) < unsigned_abs (h -ℤ l)
nearer_low l h m a b = omega (arith, ints)

pub nearer_high : (l h m : ℤ) → l ≤ℤ m → m <ℤ h → unsigned_abs (m -ℤ l) < unsigned_abs (h -ℤ l)
nearer_high l h m a b = omega (arith, ints)

pub ended : (l h x : ℤ) → l ≤ℤ x → x ≤ℤ h → int_lt l h ≡ false → x ≡ l
ended l h x a b e = omega (arith, ints)

pub not_less : (a s : ℤ) → a <ℤ s → {b : ℤ} → a ≡ b → b ≡ s → ⊥
not_less a s h e d = omega (arith, ints)

pub not_more : (a s : ℤ) → s <ℤ a → {b : ℤ} → a ≡ b → b ≡ s → ⊥
not_more a s h e d = omega (arith, ints)

pub neither : (a s : ℤ) → (a <ℤ s → ⊥) → (s <ℤ a → ⊥) → a ≡ s
neither a s f g = by_lt_z a s (λ h. absurd (f h)) (λ h. by_lt_z s a (λ k. absurd (g k)) (λ k. omega (arith, ints)))
