-- Cooper's theorem at one variable.
use Rattle.std.proofs.Common.{◌≡◌, ℕ, zero, suc, ◌*◌, ◌/◌, ◌%◌, ◌<◌, ◌⊎◌, inl, inr, ⊎_elim, List, [], ◌∷◌, map, arith, refl, ap, sym, ◌∙◌, subst}
use Rattle.std.proofs.Math.IntN.{ℤ, pos, negsuc, ◌+ℤ◌, ◌-ℤ◌, ◌*ℤ◌, neg_ℤ}
use Rattle.std.specs.Prelude.{◌≤ℤ◌, ◌<ℤ◌}
use Rattle.std.specs.List.{All, Contains, slice_index_or}
use Rattle.std.proofs.lemmas.Int.{ints, by_lt_z}
use Rattle.std.proofs.lemmas.List.Elements.{All-nil, All-map, All-cons, All-head, All-tail, All-contains, Contains-append_right}
use Rattle.math_cooper.specs.Line.{Divides, IsMultiple, Kind, AtLeastZero, DividedBy, Meets, Line, HoldsAt}
use Rattle.std.proofs.Math.Nat.{mod-lt, div-add-mod'}
use Rattle.math_int.proofs.Laws.{times-assoc, times-add, times-comm, times-neg, neg-times, times-le-not-pos, divide}

-- D is a multiple of the divisor, where x is in the constraint
abbrev pub Repeats : ℕ → Line → Type 0
Repeats D l = (m : ℕ) → l.kind ≡ DividedBy m → (l.lead ≡ pos 0) ⊎ (IsMultiple m D)

-- where the constraint bounds x from below, x meets it
abbrev pub AboveLow : ℤ → Line → Type 0
AboveLow x l = l.kind ≡ AtLeastZero → pos 0 <ℤ l.lead → pos 0 ≤ℤ ((l.lead *ℤ x) +ℤ l.rest)

down-inequality : (a t x x0 : ℤ) (n : ℕ) → x ≡ x0 +ℤ pos n → (pos 0 <ℤ a → pos 0 ≤ℤ ((a *ℤ x0) +ℤ t)) → pos 0 ≤ℤ ((a *ℤ x) +ℤ t) → pos 0 ≤ℤ ((a *ℤ x0) +ℤ t)
down-inequality a t x x0 n e low h = by_lt_z (pos 0) a low (λ k. let b = times-le-not-pos a x0 x k (omega (arith, ints)) in omega (arith, ints))

-- a multiple of m less a multiple of m
less : (m : ℕ) (z w z0 : ℤ) (n : ℤ) → z0 ≡ z -ℤ w → w ≡ pos m *ℤ n → Divides m z → Divides m z0
less m z w z0 n e f h = record { times = h.times -ℤ n; is = e ∙ (λ i. h.is i -ℤ f i) ∙ ap (λ y. pos m *ℤ h.times +ℤ y) (sym (times-neg (pos m) n)) ∙ sym (times-add (pos m) h.times (neg_ℤ n)) }

down-divides : (m D q : ℕ) (a t x x0 : ℤ) → x ≡ x0 +ℤ pos (q * D) → (a ≡ pos 0) ⊎ (IsMultiple m D) → Divides m ((a *ℤ x) +ℤ t) → Divides m ((a *ℤ x0) +ℤ t)
down-divides m D q a t x x0 e (inl z) h =
    let same : (a *ℤ x) +ℤ t ≡ (a *ℤ x0) +ℤ t = ap (λ b. (b *ℤ x) +ℤ t) z ∙ omega (arith, ints) ∙ ap (λ b. (b *ℤ x0) +ℤ t) (sym z) in
    subst (Divides m) same h
down-divides m D q a t x x0 e (inr d) h =
    let all : (a *ℤ x) ≡ (a *ℤ x0) +ℤ (a *ℤ pos (q * D)) = ap (λ y. a *ℤ y) e ∙ times-add a x0 (pos (q * D)) in
    let turned : q * (d.factor * m) ≡ m * (q * d.factor) = omega arith in
    let part : a *ℤ pos (q * D) ≡ pos m *ℤ (pos (q * d.factor) *ℤ a) =
    ap (λ n. a *ℤ pos (q * n)) d.is ∙ ap (λ n. a *ℤ pos n) turned ∙ times-comm a (pos (m * (q * d.factor))) ∙ times-assoc (pos m) (pos (q * d.factor)) a in
    less m ((a *ℤ x) +ℤ t) (a *ℤ pos (q * D)) ((a *ℤ x0) +ℤ t) (pos (q * d.factor) *ℤ a) (omega (arith, ints)) part h

descend : (l : Line) (x x0 : ℤ) (q D : ℕ) → x ≡ x0 +ℤ pos (q * D) → Repeats D l → AboveLow x0 l → HoldsAt x l → HoldsAt x0 l
descend l x x0 q D e r b h = by l.kind refl h
  where
    by : (k : Kind) → l.kind ≡ k → Meets k ((l.lead *ℤ x) +ℤ l.rest) → Meets l.kind ((l.lead *ℤ x0) +ℤ l.rest)
    by AtLeastZero c m = subst (λ k. Meets k ((l.lead *ℤ x0) +ℤ l.rest)) (sym c) (down-inequality l.lead l.rest x x0 (q * D) e (b c) m)
    by (DividedBy d) c m = subst (λ k. Meets k ((l.lead *ℤ x0) +ℤ l.rest)) (sym c) (down-divides d D q l.lead l.rest x x0 e (r d c) m)

-- ---- the greatest lower bound

-- the constraint is `x + rest >= 0`, whose bound is `- rest`
abbrev pub IsLow : Line → Type 0
IsLow l = (l.kind ≡ AtLeastZero) × (l.lead ≡ pos 1)

-- a constraint on x is `x + rest >= 0`, or `rest - x >= 0`, or does not have x: what a step's first part makes
abbrev pub IsUnit : Line → Type 0
IsUnit l = l.kind ≡ AtLeastZero → pos 0 <ℤ l.lead → l.lead ≡ pos 1

-- no constraint bounds x from below
abbrev pub NotLow : Line → Type 0
NotLow l = l.kind ≡ AtLeastZero → l.lead ≤ℤ pos 0

above-more : (l : Line) (x y : ℤ) → IsUnit l → x ≤ℤ y → AboveLow x l → AboveLow y l
above-more l x y u h b k p = let e = u k p in let was = b k p in
    subst (λ a. pos 0 ≤ℤ ((a *ℤ y) +ℤ l.rest)) (sym e) (let w = subst (λ a. pos 0 ≤ℤ ((a *ℤ x) +ℤ l.rest)) e was in omega (arith, ints))

pub record Greatest (L : List Line) : Type 0 where
  pub line : Line
  pub in_list : Contains L line
  pub low : IsLow line
  pub above : All (AboveLow (neg_ℤ line.rest)) L

kind_cases : (P : Type 0) (k : Kind) → (k ≡ AtLeastZero → P) → ((m : ℕ) → k ≡ DividedBy m → P) → P
kind_cases P AtLeastZero f g = f refl
kind_cases P (DividedBy m) f g = g m refl

not_both : (m : ℕ) (k : Kind) (P : Type 0) → k ≡ DividedBy m → k ≡ AtLeastZero → P
not_both m k P e f = cc

-- a constraint is low or not low
low_cases : (l : Line) → IsUnit l → IsLow l ⊎ NotLow l
low_cases l u = kind_cases (IsLow l ⊎ NotLow l) l.kind
    (λ e. by_lt_z (pos 0) l.lead (λ p. inl (e, u e p)) (λ n. inr (λ _. n)))
    (λ m e. inr (λ f. not_both m l.kind _ e f))

above_not_low : (l : Line) (x : ℤ) → NotLow l → AboveLow x l
above_not_low l x n k p = let q = n k in absurd (omega (arith, ints))

above_own : (l : Line) (x : ℤ) → IsLow l → neg_ℤ l.rest ≤ℤ x → AboveLow x l
above_own l x low h k p = subst (λ a. pos 0 ≤ℤ ((a *ℤ x) +ℤ l.rest)) (sym low.1) (omega (arith, ints))

pub greatest : (L : List Line) → All IsUnit L → (All NotLow L) ⊎ Greatest L
greatest [] u = inl (All-nil NotLow)
greatest (l ∷ L) u =
    let own = All-head IsUnit l L u in
    let others = All-tail IsUnit l L u in
    ⊎_elim
    (λ none. ⊎_elim
    (λ low. inr (record { line = l; in_list = (0, omega arith, refl); low = low; above = All-cons (AboveLow (neg_ℤ l.rest)) l L (above_own l (neg_ℤ l.rest) low (omega (arith, ints))) (λ k d h. above_not_low _ _ (none k d h)) }))
    (λ not. inl (All-cons NotLow l L not none))
    (low_cases l own))
    (λ (g : Greatest L). ⊎_elim
    (λ low. by_lt_z (neg_ℤ g.line.rest) (neg_ℤ l.rest)
    (λ less. inr (record {
      line = l;
      in_list = (0, omega arith, refl);
      low = low;
      above = All-cons (AboveLow (neg_ℤ l.rest)) l L (above_own l (neg_ℤ l.rest) low (omega (arith, ints)))
          (λ k d h. above-more _ (neg_ℤ g.line.rest) (neg_ℤ l.rest) (others k d h) (omega (arith, ints)) (g.above k d h));
    }))
    (λ more. inr (record {
      line = g.line;
      in_list = Contains-append_right (l ∷ []) L g.line g.in_list;
      low = g.low;
      above = All-cons (AboveLow (neg_ℤ g.line.rest)) l L (above_own l (neg_ℤ g.line.rest) low more) g.above;
    })))
    (λ not. inr (record {
      line = g.line;
      in_list = Contains-append_right (l ∷ []) L g.line g.in_list;
      low = g.low;
      above = All-cons (AboveLow (neg_ℤ g.line.rest)) l L (above_not_low l _ not) g.above;
    }))
    (low_cases l own))
    (greatest L others)

-- ---- the theorem, with a lower bound

pub record LowPut (L : List Line) (D : ℕ) : Type 0 where
  pub line : Line
  pub in_list : Contains L line
  pub low : IsLow line
  pub offset : ℕ
  pub below : offset < D
  pub holds : All (HoldsAt (neg_ℤ line.rest +ℤ pos offset)) L

natural : (z : ℤ) → pos 0 ≤ℤ z → (n : ℕ) × (z ≡ pos n)
natural (pos n) h = (n, refl)
natural (negsuc n) h = absurd (omega (arith, ints))

all-descend : (L : List Line) (x x0 : ℤ) (q D : ℕ) → x ≡ x0 +ℤ pos (q * D) → All (Repeats D) L → All (AboveLow x0) L → All (HoldsAt x) L → All (HoldsAt x0) L
all-descend L x x0 q D e r b h k d i = descend _ x x0 q D e (r k d i) (b k d i) (h k d i)

low_bound : (l : Line) (x : ℤ) → IsLow l → HoldsAt x l → pos 0 ≤ℤ (x +ℤ l.rest)
low_bound l x low h =
    let a : Meets AtLeastZero ((l.lead *ℤ x) +ℤ l.rest) = subst (λ k. Meets k ((l.lead *ℤ x) +ℤ l.rest)) low.0 h in
    let b = subst (λ c. pos 0 ≤ℤ ((c *ℤ x) +ℤ l.rest)) low.1 a in
    omega (arith, ints)

-- a number at or above -r is -r, an offset below D, and so many times D
from_bound : (x r : ℤ) (D : ℕ) → 0 < D → pos 0 ≤ℤ (x +ℤ r) → (j : ℕ) × (q : ℕ) × (j < D) × (x ≡ (neg_ℤ r +ℤ pos j) +ℤ pos (q * D))
from_bound x r D some h =
    let n = natural (x +ℤ r) h in
    let e = n.1 in
    let split = div-add-mod' n.0 D in
    (n.0 % D, n.0 / D, mod-lt n.0 some, omega (arith, ints))

pub low_put : (L : List Line) (D : ℕ) → 0 < D → All IsUnit L → All (Repeats D) L → Greatest L → (x : ℤ) → All (HoldsAt x) L → LowPut L D
low_put L D some unit rep g x h =
    let l = g.line in
    let b = from_bound x l.rest D some (low_bound l x g.low (All-contains (HoldsAt x) L l h g.in_list)) in
    let x0 = neg_ℤ l.rest +ℤ pos b.0 in
    record {
      line = l;
      in_list = g.in_list;
      low = g.low;
      offset = b.0;
      below = b.2;
      holds = all-descend L x x0 b.1 D b.3 rep (λ k d i. above-more _ (neg_ℤ l.rest) x0 (unit k d i) (omega (arith, ints)) (g.above k d i)) h;
    }

-- ---- no lower bound, no upper bound

pub record FreePut (L : List Line) (D : ℕ) : Type 0 where
  pub offset : ℕ
  pub below : offset < D
  pub holds : All (HoldsAt (pos offset)) L

-- the constraint with -x for x
unfoldable pub mirror : Line → Line
mirror l = record { kind = l.kind; lead = neg_ℤ l.lead; rest = l.rest }

mirror-value : (a t x : ℤ) → (neg_ℤ a *ℤ neg_ℤ x) +ℤ t ≡ (a *ℤ x) +ℤ t
mirror-value a t x = ap (λ z. z +ℤ t) (neg-times a (neg_ℤ x) ∙ ap neg_ℤ (times-neg a x) ∙ omega (arith, ints))

pub mirror_in : (l : Line) (x : ℤ) → HoldsAt x l → HoldsAt (neg_ℤ x) (mirror l)
unfolding mirror
mirror_in l x h = subst (Meets l.kind) (sym (mirror-value l.lead l.rest x)) h

pub mirror_out : (l : Line) (x : ℤ) → HoldsAt (neg_ℤ x) (mirror l) → HoldsAt x l
unfolding mirror
mirror_out l x h = subst (Meets l.kind) (mirror-value l.lead l.rest x) h

repeats-mirror : (D : ℕ) (l : Line) → Repeats D l → Repeats D (mirror l)
unfolding mirror
repeats-mirror D l r m e = ⊎_elim (λ z. inl (ap neg_ℤ z)) (λ d. inr d) (r m e)

above-mirror : (l : Line) (x : ℤ) → NotLow (mirror l) → AboveLow x (mirror l)
above-mirror l x n = above_not_low (mirror l) x n

pub free_put : (L : List Line) (D : ℕ) → 0 < D → All (Repeats D) L → All NotLow L → All (λ l. NotLow (mirror l)) L → (x : ℤ) → All (HoldsAt x) L → FreePut L D
free_put L D some rep low high x h =
    let d = divide D some x in
    record { offset = d.1; below = d.2; holds = λ k i s. at (slice_index_or L k i) d.0 d.1 d.3 (rep k i s) (low k i s) (high k i s) (h k i s) }
  where
    at : (l : Line) (q : ℤ) (r : ℕ) → x ≡ pos D *ℤ q +ℤ pos r → Repeats D l → NotLow l → NotLow (mirror l) → HoldsAt x l → HoldsAt (pos r) l
    at l (pos q) r e p lo hi m = descend l x (pos r) q D (omega (arith, ints)) p (above_not_low l (pos r) lo) m
    at l (negsuc q) r e p lo hi m = mirror_out l (pos r) (descend (mirror l) (neg_ℤ x) (neg_ℤ (pos r)) (suc q) D (omega (arith, ints)) (repeats-mirror D l p) (above-mirror l _ hi) (mirror_in l x m))

-- ---- the theorem, with an upper bound: the mirrored one

all_unmap : (P : Line → Type 0) (f : Line → Line) (L : List Line) → All P (map f L) → All (λ l. P (f l)) L
all_unmap P f [] h = All-nil (λ l. P (f l))
all_unmap P f (l ∷ L) h = All-cons (λ m. P (f m)) l L (All-head P (f l) (map f L) h) (all_unmap P f L (All-tail P (f l) (map f L) h))

contains_unmap : (f : Line → Line) (L : List Line) (l : Line) → Contains (map f L) l → (m : Line) × Contains L m × (f m ≡ l)
contains_unmap f [] l c = absurd (let h = c.1 in omega arith)
contains_unmap f (m ∷ L) l (zero, h, e) = (m, (0, omega arith, refl), e)
contains_unmap f (m ∷ L) l (suc k, h, e) = let r = contains_unmap f L l (k, omega arith, e) in (r.0, Contains-append_right (m ∷ []) L r.0 r.1, r.2)

abbrev pub IsHigh : Line → Type 0
IsHigh l = (l.kind ≡ AtLeastZero) × (l.lead ≡ negsuc 0)

pub record HighPut (L : List Line) (D : ℕ) : Type 0 where
  pub line : Line
  pub in_list : Contains L line
  pub high : IsHigh line
  pub offset : ℕ
  pub below : offset < D
  pub holds : All (HoldsAt (line.rest -ℤ pos offset)) L

neg-back : (x : ℤ) → neg_ℤ (neg_ℤ x) ≡ x
neg-back x = omega (arith, ints)

neg-one : (a : ℤ) → neg_ℤ a ≡ pos 1 → a ≡ negsuc 0
neg-one a e = sym (neg-back a) ∙ ap neg_ℤ e

pub high_put : (L : List Line) (D : ℕ) → 0 < D → All (λ l. IsUnit (mirror l)) L → All (Repeats D) L → Greatest (map mirror L) → (x : ℤ) → All (HoldsAt x) L → HighPut L D
unfolding mirror
high_put L D some unit rep g x h =
    let p : LowPut (map mirror L) D = low_put (map mirror L) D some (All-map IsUnit mirror L unit) (All-map (Repeats D) mirror L (λ k d i. repeats-mirror D (slice_index_or L k d) (rep k d i))) g (neg_ℤ x)
    (All-map (HoldsAt (neg_ℤ x)) mirror L (λ k d i. mirror_in (slice_index_or L k d) x (h k d i))) in
    let m = contains_unmap mirror L p.line p.in_list in
    let same : m.0.rest ≡ p.line.rest = ap (λ (l : Line). l.rest) m.2 in
    let kind : m.0.kind ≡ p.line.kind = ap (λ (l : Line). l.kind) m.2 in
    let lead : neg_ℤ m.0.lead ≡ p.line.lead = ap (λ (l : Line). l.lead) m.2 in
    let turned : neg_ℤ p.line.rest +ℤ pos p.offset ≡ neg_ℤ (m.0.rest -ℤ pos p.offset) = omega (arith, ints) in
    let holds = all_unmap (HoldsAt (neg_ℤ p.line.rest +ℤ pos p.offset)) mirror L p.holds in
    record {
      line = m.0;
      in_list = m.1;
      high = (kind ∙ p.low.0, neg-one m.0.lead (lead ∙ p.low.1));
      offset = p.offset;
      below = p.below;
      holds = λ k d i. mirror_out (slice_index_or L k d) (m.0.rest -ℤ pos p.offset) (subst (λ y. HoldsAt y (mirror (slice_index_or L k d))) turned (holds k d i));
    }

-- ---- the whole theorem

-- the coefficient of x is 1, -1 or 0 where the constraint is an inequality
abbrev pub IsUnitBoth : Line → Type 0
IsUnitBoth l = IsUnit l × IsUnit (mirror l)

abbrev pub Puts : List Line → ℕ → Type 0
Puts L D = (LowPut L D) ⊎ ((All NotLow L) × ((HighPut L D) ⊎ ((All (λ l. NotLow (mirror l)) L) × FreePut L D)))

pub cooper : (L : List Line) (D : ℕ) → 0 < D → All IsUnitBoth L → All (Repeats D) L → (x : ℤ) → All (HoldsAt x) L → Puts L D
cooper L D some unit rep x h =
    ⊎_elim
    (λ low. inr (
      low,
      ⊎_elim
          (λ high. let hi = all_unmap NotLow mirror L high in inr (hi, free_put L D some rep low hi x h))
          (λ g. inl (high_put L D some (λ k d i. (unit k d i).1) rep g x h))
          (greatest (map mirror L) (All-map IsUnit mirror L (λ k d i. (unit k d i).1))),
    ))
    (λ g. inl (low_put L D some (λ k d i. (unit k d i).0) rep g x h))
    (greatest L (λ k d i. (unit k d i).0))
