-- Offsets at which a condition holds at no values.
use Rattle.std.proofs.Common.{◌≡◌, ℕ, zero, suc, ◌+◌, ◌*◌, ◌/◌, ◌<◌, ◌⊎◌, inl, inr, List, [], ◌∷◌, take, length, get_or, arith, refl, sym, ap, subst, ◌∙◌}
use Rattle.std.proofs.Math.IntN.{ℤ, pos, negsuc, ◌+ℤ◌, ◌-ℤ◌, ◌*ℤ◌, neg_ℤ, zero-*ℤ}
use Rattle.std.specs.Prelude.{◌≤ℤ◌, ◌<ℤ◌, unsigned_abs}
use Rattle.std.specs.Int.{◌∣◌}
use Rattle.std.specs.List.{All}
use Rattle.std.proofs.Math.Nat.{div-mul_cancel, dvd_trans, pos_of_dvd_of_pos}
use Rattle.std.proofs.lemmas.Int.{ints, by_lt_z}
use Rattle.std.proofs.lemmas.List.{get_or-map}
use Rattle.std.proofs.lemmas.List.Elements.{All-head, All-tail, All-more}
use Rattle.std.proofs.lemmas.Nat.Gcd.{dvd_refl}
use Rattle.math_int.proofs.Laws.{times-add, times-assoc, times-neg, neg-times, times-le}
use Rattle.math_cooper.specs.Line.{Divides, AtLeastZero, DividedBy, Meets}
use Rattle.math_cooper.specs.System.{Condition, Affine, Holds, dot, value, lead, sign, put, add_times, low_form, high_form, free_form}
use Rattle.math_cooper.proofs.Elimination.{all_unmap}
use Rattle.cooper_solve.specs.declared.constraint.Direction.{Direction}
use Rattle.cooper_solve.specs.declared.constraint.Direction.TheVariants.{Low, High, Free}
use Rattle.cooper_solve.proofs.Scaled.{natural_is}
use Rattle.cooper_solve.specs.Views.{base_form, no_condition, slope, NoneFrom}

-- ---- rows

pub nought_value : (row ws : List ℤ) → All (λ a. a ≡ pos 0) row → dot row ws ≡ pos 0
unfolding dot
nought_value [] ws h = refl
nought_value (a ∷ row) [] h = refl
nought_value (a ∷ row) (w ∷ ws) h =
    let e : a *ℤ w ≡ pos 0 = ap (λ b. b *ℤ w) (All-head (λ x. x ≡ pos 0) a row h) ∙ zero-*ℤ w in
    let r = nought_value row ws (All-tail (λ x. x ≡ pos 0) a row h) in
    omega (arith, ints)

signed_multiple : (a : ℤ) (h q : ℕ) → unsigned_abs a ≡ q * h → (z : ℤ) × (a ≡ pos h *ℤ z)
signed_multiple (pos n) h q e = (pos q, omega (arith, ints))
signed_multiple (negsuc n) h q e = (neg_ℤ (pos q), times-back h q n e)
  where
    times-back : (h q n : ℕ) → suc n ≡ q * h → negsuc n ≡ pos h *ℤ neg_ℤ (pos q)
    times-back h q n e = let t = times-neg (pos h) (pos q) in omega (arith, ints)

divides_of : (h : ℕ) (a : ℤ) → 0 < h → h ∣ unsigned_abs a → Divides h a
divides_of h a p d = let s = signed_multiple a h (unsigned_abs a / h) (sym (div-mul_cancel h d)) in record { times = s.0; is = s.1 }

divides_sum : (h : ℕ) (a b : ℤ) → Divides h a → Divides h b → Divides h (a +ℤ b)
divides_sum h a b d e = record { times = d.times +ℤ e.times; is = (λ i. d.is i +ℤ e.is i) ∙ sym (times-add (pos h) d.times e.times) }

divides_less : (h : ℕ) (a b : ℤ) → Divides h (a +ℤ b) → Divides h a → Divides h b
divides_less h a b d e = record { times = d.times -ℤ e.times; is = let p = d.is in let q = e.is in omega (arith, ints, times-add (pos h) d.times (neg_ℤ e.times), times-neg (pos h) e.times) }

divides_product : (h : ℕ) (a w : ℤ) → Divides h a → Divides h (a *ℤ w)
divides_product h a w d = record { times = d.times *ℤ w; is = ap (λ z. z *ℤ w) d.is ∙ times-assoc (pos h) d.times w }

divides_zero : (h : ℕ) → Divides h (pos 0)
divides_zero h = record { times = pos 0; is = omega (arith, ints) }

pub row_divides : (h : ℕ) (row ws : List ℤ) → 0 < h → All (λ a. h ∣ unsigned_abs a) row → Divides h (dot row ws)
unfolding dot
row_divides h [] ws p d = divides_zero h
row_divides h (a ∷ row) [] p d = divides_zero h
row_divides h (a ∷ row) (w ∷ ws) p d =
    divides_sum h (a *ℤ w) (dot row ws) (divides_product h a w (divides_of h a p (All-head (λ x. h ∣ unsigned_abs x) a row d))) (row_divides h row ws p (All-tail (λ x. h ∣ unsigned_abs x) a row d))

divides_through : (h m : ℕ) (z : ℤ) → 0 < h → h ∣ m → Divides m z → Divides h z
divides_through h m z p d e =
    let q = m / h in
    let same : pos m ≡ pos h *ℤ pos q = (let f = div-mul_cancel h d in omega (arith, ints)) in
    record { times = pos q *ℤ e.times; is = e.is ∙ ap (λ y. y *ℤ e.times) same ∙ times-assoc (pos h) (pos q) e.times }

-- where the divisor divides the whole, a common divisor divides what is left
pub rest_divides : (h m : ℕ) (row ws : List ℤ) (k t : ℤ) → 0 < h → h ∣ m → All (λ a. h ∣ unsigned_abs a) row → Divides m ((dot row ws +ℤ k) +ℤ t) → Divides h (k +ℤ t)
rest_divides h m row ws k t p d each e =
    let whole = divides_through h m ((dot row ws +ℤ k) +ℤ t) p d e in
    let same : (dot row ws +ℤ k) +ℤ t ≡ dot row ws +ℤ (k +ℤ t) = omega (arith, ints) in
    divides_less h (dot row ws) (k +ℤ t) (subst (Divides h) same whole) (row_divides h row ws p each)

-- ---- one divisor

-- no multiple of h lies strictly between 0 and h
between : (h : ℕ) (z t : ℤ) → z ≡ pos h *ℤ t → pos 0 <ℤ z → z <ℤ pos h → ⊥
between h z t e lo hi = by_lt_z (pos 0) t
    (λ p. let m = times-le h (pos 1) t (omega (arith, ints)) in omega (arith, ints))
    (λ n. let m = times-le h t (pos 0) n in omega (arith, ints))

pub undivided : (h : ℕ) (value q r t d : ℤ) → value ≡ (pos h *ℤ q) +ℤ r → pos 0 <ℤ (r +ℤ d) → (r +ℤ d) <ℤ pos h → Divides h (value +ℤ d) → ⊥
undivided h value q r t d e lo hi dv =
    between h (r +ℤ d) (dv.times -ℤ q) (let p = dv.is in omega (arith, ints, times-add (pos h) dv.times (neg_ℤ q), times-neg (pos h) q)) lo hi

-- ---- the next offsets

unit_cases : (P : ℤ → Type 0) (a : ℤ) → a ≡ sign a → P (pos 0) → P (pos 1) → P (negsuc 0) → P a
unit_cases P (pos zero) e f g h = f
unit_cases P (pos (suc n)) e f g h = subst P (sym e) g
unit_cases P (negsuc n) e f g h = subst P (sym e) h

pub slope_value : (a : ℤ) (s : ℤ) → a ≡ sign a → (a ≡ pos 0 → a *ℤ s ≡ pos 0) × (pos 0 <ℤ a → a *ℤ s ≡ s) × (a <ℤ pos 0 → a *ℤ s ≡ neg_ℤ s)
slope_value a s e = unit_cases (λ b. (b ≡ pos 0 → b *ℤ s ≡ pos 0) × (pos 0 <ℤ b → b *ℤ s ≡ s) × (b <ℤ pos 0 → b *ℤ s ≡ neg_ℤ s)) a e
    (λ _. zero-*ℤ s, λ l. absurd (omega (arith, ints)), λ l. absurd (omega (arith, ints)))
    (λ z. absurd (omega (arith, ints)), λ _. omega (arith, ints), λ l. absurd (omega (arith, ints)))
    (λ z. absurd (omega (arith, ints)), λ l. absurd (omega (arith, ints)), λ _. omega (arith, ints))

pub slope_unit : (d : Direction) (a : ℤ) → a ≡ sign a → slope d a ≡ sign (slope d a)
slope_unit Low a e = e
slope_unit High a e = unit_cases (λ b. neg_ℤ b ≡ sign (neg_ℤ b)) a e refl refl refl
slope_unit Free a e = e

-- the put s offsets on: its coefficients stay, and its constant goes up, or down
later_row : (d : Direction) (i : ℕ) (R : List Condition) (k j s : ℕ) → (base_form d i R k (j + s)).coefficients ≡ (base_form d i R k j).coefficients
unfolding low_form high_form free_form
later_row Low i R k j s = refl
later_row High i R k j s = refl
later_row Free i R k j s = refl

later_constant : (d : Direction) (i : ℕ) (R : List Condition) (k j s : ℕ) (a : ℤ) → a *ℤ (base_form d i R k (j + s)).constant ≡ (a *ℤ (base_form d i R k j).constant) +ℤ (slope d a *ℤ pos s)
unfolding low_form high_form free_form
later_constant Low i R k j s a = let b = neg_ℤ (get_or R k no_condition).constant in ap (λ z. a *ℤ z) (split b) ∙ times-add a (b +ℤ pos j) (pos s)
  where
    split : (b : ℤ) → b +ℤ pos (j + s) ≡ (b +ℤ pos j) +ℤ pos s
    split b = omega (arith, ints)
later_constant High i R k j s a = let b = (get_or R k no_condition).constant in ap (λ z. a *ℤ z) (split b) ∙ times-add a (b -ℤ pos j) (neg_ℤ (pos s)) ∙ ap (λ z. (a *ℤ (b -ℤ pos j)) +ℤ z) (times-neg a (pos s) ∙ sym (neg-times a (pos s)))
  where
    split : (b : ℤ) → b -ℤ pos (j + s) ≡ (b -ℤ pos j) +ℤ neg_ℤ (pos s)
    split b = omega (arith, ints)
later_constant Free i R k j s a = ap (λ z. a *ℤ z) split ∙ times-add a (pos j) (pos s)
  where
    split : pos (j + s) ≡ pos j +ℤ pos s
    split = omega (arith, ints)

-- the value of a condition grows by the slope
later_value : (d : Direction) (i : ℕ) (R : List Condition) (k j s : ℕ) (c : Condition) (ws : List ℤ) → value (put i (base_form d i R k (j + s)) c) ws ≡ value (put i (base_form d i R k j) c) ws +ℤ (slope d (lead i c) *ℤ pos s)
unfolding put
later_value d i R k j s c ws =
    let row = ap (λ l. dot (add_times (lead i c) (take i c.coefficients) l) ws) (later_row d i R k j s) in
    let constant = later_constant d i R k j s (lead i c) in
    omega (arith, ints, row, constant)

kind_same : (i : ℕ) (g : Affine) (c : Condition) (ws : List ℤ) → Holds ws (put i g c) → Meets c.kind (value (put i g c) ws)
unfolding put
kind_same i g c ws h = h

same_kind : (i : ℕ) (g : Affine) (c : Condition) (ws : List ℤ) (t : ℤ) → Meets c.kind (value (put i g c) ws +ℤ t) → Meets (put i g c).kind (value (put i g c) ws +ℤ t)
unfolding put
same_kind i g c ws t h = h

pub none_later : (d : Direction) (i : ℕ) (R T : List Condition) (n : ℕ) (x : Condition) (r : ℤ) → n < length R → n < length T → x ≡ get_or T n no_condition → ((s : ℕ) (ws : List ℤ) → pos s <ℤ r → Meets x.kind ((dot x.coefficients ws +ℤ x.constant) +ℤ (slope d (lead i (get_or R n no_condition)) *ℤ pos s)) → ⊥) → NoneFrom i d R T r
none_later d i R T n x r l m e none k j is s less (ws, len, h) =
    let c = get_or R n no_condition in
    let g = base_form d i R k j in
    let own : x ≡ put i g c = e ∙ ap (λ L. get_or L n no_condition) is ∙ get_or-map (put i g) R n no_condition no_condition l in
    let held = all_unmap (Holds ws) (put i (base_form d i R k (j + s))) R h n no_condition l in
    let moved = subst (Meets c.kind) (later_value d i R k j s c ws) (kind_same i (base_form d i R k (j + s)) c ws held) in
    none s ws less (subst (λ y. Meets y.kind (value y ws +ℤ (slope d (lead i c) *ℤ pos s))) (sym own) (same_kind i g c ws (slope d (lead i c) *ℤ pos s) moved))

pub none_start : (d : Direction) (i : ℕ) (R T : List Condition) → NoneFrom i d R T (pos 0)
none_start d i R T k j is s less = absurd (omega (arith, ints))

-- ---- a common divisor

pub common_none : (divisor : ℕ) → divisor ∣ divisor
common_none d = dvd_refl d

pub common_more : (row : List ℤ) (k all divisor : ℕ) (next : ℕ) → k < length row → 0 < all → all ∣ divisor → All (λ a. all ∣ unsigned_abs a) (take k row) → next ∣ all → next ∣ unsigned_abs (get_or row k (pos 0))
    → (0 < next) × (next ∣ divisor) × All (λ a. next ∣ unsigned_abs a) (take (k + 1) row)
common_more row k all divisor next l p d each own item = (
  pos_of_dvd_of_pos own p,
  dvd_trans next own d,
  All-more (λ a. next ∣ unsigned_abs a) row k (pos 0) l (λ j x m. dvd_trans next own (each j x m)) item,
)

pub signed_some : (z : ℤ) → pos 0 ≤ℤ z → 0 < unsigned_abs z → pos 0 <ℤ z
signed_some (pos n) h p = omega (arith, ints)
signed_some (negsuc n) h p = absurd (omega (arith, ints))

-- ---- offsets that a divisor rules out

module _ (value divisor slope rest : ℤ) (unit : slope ≡ sign slope) (some : pos 0 <ℤ divisor) (exact : (q : ℤ) × (value ≡ (divisor *ℤ q) +ℤ rest)) (low : pos 0 ≤ℤ rest) (high : rest <ℤ divisor) (not : rest ≡ pos 0 → ⊥) where
  whole : pos (unsigned_abs divisor) ≡ divisor
  whole = natural_is divisor some

  form : value ≡ (pos (unsigned_abs divisor) *ℤ exact.0) +ℤ rest
  form = exact.1 ∙ ap (λ d. (d *ℤ exact.0) +ℤ rest) (sym whole)

  above : pos 0 <ℤ rest
  above = by_lt_z (pos 0) rest (λ l. l) (λ g. absurd (not (omega (arith, ints))))

  pub skip_flat : slope ≡ pos 0 → (s : ℕ) → Divides (unsigned_abs divisor) (value +ℤ (slope *ℤ pos s)) → ⊥
  skip_flat e s d = let t = (slope_value slope (pos s) unit).0 e in let a = above in let w = whole in undivided (unsigned_abs divisor) value exact.0 rest (pos 0) (slope *ℤ pos s) form (omega (arith, ints)) (omega (arith, ints)) d

  pub skip_up : pos 0 <ℤ slope → (s : ℕ) → pos s <ℤ (divisor -ℤ rest) → Divides (unsigned_abs divisor) (value +ℤ (slope *ℤ pos s)) → ⊥
  skip_up e s l d = let t = (slope_value slope (pos s) unit).1 e in let a = above in let w = whole in undivided (unsigned_abs divisor) value exact.0 rest (pos 0) (slope *ℤ pos s) form (omega (arith, ints)) (omega (arith, ints)) d

  pub skip_down : slope <ℤ pos 0 → (s : ℕ) → pos s <ℤ rest → Divides (unsigned_abs divisor) (value +ℤ (slope *ℤ pos s)) → ⊥
  skip_down e s l d = let t = (slope_value slope (pos s) unit).2 e in let a = above in let w = whole in undivided (unsigned_abs divisor) value exact.0 rest (pos 0) (slope *ℤ pos s) form (omega (arith, ints)) (omega (arith, ints)) d

-- ---- one condition

pub below_fails : (c : Condition) (slope : ℤ) (s : ℕ) (ws : List ℤ) → c.kind ≡ AtLeastZero → All (λ a. a ≡ pos 0) c.coefficients → (c.constant +ℤ (slope *ℤ pos s)) <ℤ pos 0 → Meets c.kind ((dot c.coefficients ws +ℤ c.constant) +ℤ (slope *ℤ pos s)) → ⊥
below_fails c slope s ws k nought low m =
    let h : pos 0 ≤ℤ ((dot c.coefficients ws +ℤ c.constant) +ℤ (slope *ℤ pos s)) = subst (λ x. Meets x ((dot c.coefficients ws +ℤ c.constant) +ℤ (slope *ℤ pos s))) k m in
    omega (arith, ints, nought_value c.coefficients ws nought)

pub divisor_fails : (c : Condition) (m h : ℕ) (slope : ℤ) (s : ℕ) (ws : List ℤ) → c.kind ≡ DividedBy m → 0 < h → h ∣ m → All (λ a. h ∣ unsigned_abs a) c.coefficients → (Divides h (c.constant +ℤ (slope *ℤ pos s)) → ⊥) → Meets c.kind ((dot c.coefficients ws +ℤ c.constant) +ℤ (slope *ℤ pos s)) → ⊥
divisor_fails c m h slope s ws k p d each fails held =
    fails (rest_divides h m c.coefficients ws c.constant (slope *ℤ pos s) p d each (subst (λ x. Meets x ((dot c.coefficients ws +ℤ c.constant) +ℤ (slope *ℤ pos s))) k held))

pub none_either : (i : ℕ) (d : Direction) (R T : List Condition) (a b r : ℤ) → (r ≡ a) ⊎ (r ≡ b) → NoneFrom i d R T a → NoneFrom i d R T b → NoneFrom i d R T r
none_either i d R T a b r (inl e) f g = subst (NoneFrom i d R T) (sym e) f
none_either i d R T a b r (inr e) f g = subst (NoneFrom i d R T) (sym e) g

pub below_of : (a : ℤ) → (a ≡ pos 0 → ⊥) → a ≤ℤ pos 0 → a <ℤ pos 0
below_of a n l = by_lt_z a (pos 0) (λ h. h) (λ g. absurd (n (omega (arith, ints))))

-- where not even the first offset meets the condition, nothing does
pub refuted_now : (c : Condition) (vs : List ℤ) (n : ℤ) → pos 0 <ℤ n → ((s : ℕ) (ws : List ℤ) → pos s <ℤ n → Meets c.kind ((dot c.coefficients ws +ℤ c.constant) +ℤ (pos 0 *ℤ pos s)) → ⊥) → Meets c.kind (dot c.coefficients vs +ℤ c.constant) → ⊥
refuted_now c vs n p none held = none 0 vs p (subst (Meets c.kind) same held)
  where
    same : dot c.coefficients vs +ℤ c.constant ≡ (dot c.coefficients vs +ℤ c.constant) +ℤ (pos 0 *ℤ pos 0)
    same = omega (arith, ints)
