-- Adding a form to a sum adds at most one product to each coefficient.
use Rattle.std.proofs.Common.{◌≡◌, ℕ, zero, suc, ◌+◌, ◌*◌, ◌<◌, ◌≤◌, ◌^◌, ◌==◌, ◌&&◌, ◌⊎◌, inl, inr, List, [], ◌∷◌, length, get_or, Bool, true, false, cond, refl, sym, ◌∙◌, subst, arith, unsigned_abs}
use Rattle.std.proofs.Math.ListN.{set, length-set}
use Rattle.std.proofs.Math.IntN.{ℤ, pos, ◌+ℤ◌, ◌*ℤ◌}
use Rattle.std.proofs.Math.Nat.{mul-le-mul}
use Rattle.std.proofs.lemmas.Int.{ints, unsigned_abs-mul}
use Rattle.std.proofs.lemmas.Bool.{eqb-true}
use Rattle.model_tree.specs.Limits.{greatest_divisor}
use Rattle.model_form.specs.Form.{Form, form, Remainders, no_remainders, remainder, remainders_of, Term}
use Rattle.model_form.specs.Same.{same_form}
use Rattle.model_form.specs.Sums.{Sum, add_fields, add_like, add_remainders, add_form, is_like, started}
use Rattle.model_form.specs.Ranges.{IsForm, IsCoefficient, AreFields, AreRemainders, AreApart, IsApart}
use Rattle.form_laws.proofs.Coefficients.{add_remainders_apart}
use Rattle.lin_form.specs.Within.{IsWithin, AreTotals, AreLikes, IsGathered, TotalsBefore, LikesBefore}
use Rattle.lin_form.specs.Whole.{AreInner}
use Rattle.lin_form.proofs.Wholes.{add_remainders_inner}
use Rattle.model_form.proofs.Equals.{same_laws}
use Rattle.model_form.proofs.Values.{both_out, length-add_fields}

-- ---- products and sums

pub product_within : (by a : ℤ) → unsigned_abs by ≤ 2 ^ 31 → IsCoefficient a → IsWithin 1 (by *ℤ a)
product_within by a h g = let e = unsigned_abs-mul by a in let p = mul-le-mul h (let l : unsigned_abs a ≤ 2 ^ 31 = omega arith in l) in omega arith

pub sum_within : (m : ℕ) (s p : ℤ) → IsWithin m s → IsWithin 1 p → IsWithin (suc m) (s +ℤ p)
sum_within m s p h g = let t : unsigned_abs (s +ℤ p) ≤ unsigned_abs s + unsigned_abs p = omega (arith, ints) in omega arith

pub more_within : (m : ℕ) (z : ℤ) → IsWithin m z → IsWithin (suc m) z
more_within m z h = omega arith

-- ---- fields

pub totals_begin : (m i : ℕ) (cs : List ℤ) → AreTotals m cs → TotalsBefore m 0 i cs
totals_begin m i [] h = tt
totals_begin m i (c ∷ cs) h = (inl h.0, totals_begin m (suc i) cs h.1)

pub totals_end : (m next i : ℕ) (cs : List ℤ) → TotalsBefore m next i cs → AreTotals (suc m) cs
totals_end m next i [] h = tt
totals_end m next i (c ∷ cs) h = (elim h.0 as (λ _. IsWithin (suc m) c) [ inl p ↦ more_within m c p | inr p ↦ p.0 ], totals_end m next (suc i) cs h.1)

totals_later : (m next later i : ℕ) (cs : List ℤ) → next ≤ later → TotalsBefore m next i cs → TotalsBefore m later i cs
totals_later m next later i [] l h = tt
totals_later m next later i (c ∷ cs) l h = (elim h.0 as (λ _. IsWithin m c ⊎ (IsWithin (suc m) c × (i < later))) [ inl p ↦ inl p | inr p ↦ inr (p.0, (let q = p.1 in omega arith)) ], totals_later m next later (suc i) cs l h.1)

-- at a field that has not had its term, the total has room
pub total_at : (m next i n : ℕ) (cs : List ℤ) → TotalsBefore m next i cs → next ≤ i + n → n < length cs → IsWithin m (get_or cs n (pos 0))
total_at m next i n [] h l k = absurd (omega arith)
total_at m next i zero (c ∷ cs) h l k = elim h.0 as (λ _. IsWithin m c) [ inl p ↦ p | inr p ↦ (let q = p.1 in absurd (omega arith)) ]
total_at m next i (suc n) (c ∷ cs) h l k = total_at m next (suc i) n cs h.1 (omega arith) (omega arith)

pub totals_step : (m next i n : ℕ) (cs : List ℤ) (z : ℤ) → TotalsBefore m next i cs → next ≤ i + n → IsWithin (suc m) z → TotalsBefore m (suc (i + n)) i (set cs n z)
totals_step m next i n [] z h l w = tt
totals_step m next i zero (c ∷ cs) z h l w = (inr (w, (omega arith)), totals_later m next (suc (i + 0)) (suc i) cs (omega arith) h.1)
totals_step m next i (suc n) (c ∷ cs) z h l w =
    let rest : TotalsBefore m (suc (suc i + n)) (suc i) (set cs n z) = totals_step m next (suc i) n cs z h.1 (omega arith) w in
    let e : suc (suc i + n) ≡ suc (i + suc n) = omega arith in
    (elim h.0 as (λ _. IsWithin m c ⊎ (IsWithin (suc m) c × (i < suc (i + suc n)))) [ inl p ↦ inl p | inr p ↦ inr (p.0, omega arith) ], subst (λ k. TotalsBefore m k (suc i) (set cs n z)) e rest)

pub add_fields_within : (m next : ℕ) (by : ℤ) (ts : List Term) (cs : List ℤ) → unsigned_abs by ≤ 2 ^ 31 → AreFields next ts → length cs ≡ 8 → TotalsBefore m next 0 cs → AreTotals (suc m) (add_fields by ts cs)
add_fields_within m next by [] cs b f l h = totals_end m next 0 cs h
add_fields_within m next by (t ∷ ts) cs b f l h =
    let low = f.0 in
    let high = f.1 in
    let room = total_at m next 0 t.field cs h (omega arith) (omega arith) in
    let w = sum_within m (get_or cs t.field (pos 0)) (by *ℤ t.coefficient) room (product_within by t.coefficient b f.3) in
    let e : suc (0 + t.field) ≡ suc t.field = omega arith in
    add_fields_within m (suc t.field) by ts (set cs t.field (get_or cs t.field (pos 0) +ℤ (by *ℤ t.coefficient))) b f.4 (length-set cs t.field _ ∙ l)
    (subst (λ k. TotalsBefore m k 0 (set cs t.field (get_or cs t.field (pos 0) +ℤ (by *ℤ t.coefficient)))) e (totals_step m next 0 t.field cs (get_or cs t.field (pos 0) +ℤ (by *ℤ t.coefficient)) h (omega arith) w))

-- ---- remainders

pub likes_begin : (m : ℕ) (further rs : Remainders) → AreLikes m rs → LikesBefore m further rs
likes_begin m further no_remainders h = tt
likes_begin m further (remainder a f k rs) h = (inl h.0, h.1, h.2, likes_begin m further rs h.3)

pub likes_end : (m : ℕ) (further rs : Remainders) → LikesBefore m further rs → AreLikes (suc m) rs
likes_end m further no_remainders h = tt
likes_end m further (remainder a f k rs) h = (elim h.0 as (λ _. IsWithin (suc m) a) [ inl p ↦ more_within m a p | inr p ↦ p.0 ], h.1, h.2, likes_end m further rs h.3)

-- what is like a term is like the same terms
apart_alike : (f g : Form) (k m : ℕ) (rs : Remainders) → is_like f k g m ≡ true → IsApart g m rs → IsApart f k rs
apart_alike f g k m no_remainders e h = tt
apart_alike f g k m (remainder b q n rs) e h =
    let like = both_out (k == m) (same_form f g) e in
    ((λ i. (eqb-true k m like.0 i == n) && same_laws.congr f g q like.1 i) ∙ h.0, apart_alike f g k m rs e h.1)

pub like_step : (m : ℕ) (c : ℤ) (g : Form) (n : ℕ) (a : ℤ) (further rs : Remainders) → IsWithin 1 c → 0 < n → n ≤ greatest_divisor → IsApart g n further → LikesBefore m (remainder a g n further) rs → LikesBefore m further (add_like c g n rs)
like_step m c g n a further no_remainders w p q s h = (inr (let l : 1 * 2 ^ 62 ≤ suc m * 2 ^ 62 = omega arith in (omega arith), s), p, q, tt)
like_step m c g n a further (remainder b f k rs) w p q s h = by (is_like f k g n) refl (like_step m c g n a further rs w p q s h.3) h.0
  where
    by : (t : Bool) → is_like f k g n ≡ t → LikesBefore m further (add_like c g n rs) → IsWithin m b ⊎ (IsWithin (suc m) b × IsApart f k (remainder a g n further)) → LikesBefore m further (cond t (remainder (b +ℤ c) f k rs) (remainder b f k (add_like c g n rs)))
    by false e r (inl v) = (inl v, h.1, h.2, r)
    by false e r (inr v) = (inr (v.0, v.1.1), h.1, h.2, r)
    by true e r (inl v) = (inr (sum_within m b c v w, apart_alike f g k n further e s), h.1, h.2, keep rs h.3)
      where
        keep : (rs : Remainders) → LikesBefore m (remainder a g n further) rs → LikesBefore m further rs
        keep no_remainders h = tt
        keep (remainder b f k rs) h = (elim h.0 as (λ _. IsWithin m b ⊎ (IsWithin (suc m) b × IsApart f k further)) [ inl p ↦ inl p | inr p ↦ inr (p.0, p.1.1) ], h.1, h.2, keep rs h.3)
    by true e r (inr v) = absurd (let z : true ≡ false = sym e ∙ v.1.0 in cc)

-- at a term that is like the next, the coefficient has room
pub like_room : (m : ℕ) (a : ℤ) (g : Form) (n : ℕ) (further rs : Remainders) → LikesBefore m (remainder a g n further) rs → AreLikes (suc m) rs
like_room m a g n further rs h = likes_end m (remainder a g n further) rs h

pub add_remainders_within : (m : ℕ) (by : ℤ) (rs terms : Remainders) → unsigned_abs by ≤ 2 ^ 31 → AreRemainders rs → AreApart rs → LikesBefore m rs terms → AreLikes (suc m) (add_remainders by rs terms)
add_remainders_within m by no_remainders terms b r s h = likes_end m no_remainders terms h
add_remainders_within m by (remainder a f k rs) terms b r s h =
    add_remainders_within m by rs (add_like (by *ℤ a) f k terms) b r.4 s.1 (like_step m (by *ℤ a) f k a rs terms (product_within by a b r.1) r.2 r.3 s.0 h)

-- ---- one more form

pub gathered_more : (m : ℕ) (by : ℤ) (f : Form) (s : Sum) → unsigned_abs by ≤ 2 ^ 31 → IsForm f → AreInner (remainders_of f) → IsGathered m s → IsGathered (suc m) (add_form by f s)
gathered_more m by (form c ts rs) s b f i h = record {
  eight = length-add_fields by ts s.totals ∙ h.eight;
  totals = add_fields_within m 0 by ts s.totals b f.1 h.eight (totals_begin m 0 s.totals h.totals);
  likes = add_remainders_within m by rs s.terms b f.2 f.3 (likes_begin m rs s.terms h.likes);
  apart = add_remainders_apart by rs s.terms h.apart;
  inner = add_remainders_inner by rs s.terms i h.inner;
}

pub gathered_none : (c : ℤ) → IsGathered 0 (started c)
gathered_none c = record {
  eight = refl;
  totals = (omega arith, (omega arith, (omega arith, (omega arith, (omega arith, (omega arith, (omega arith, (omega arith, tt))))))));
  likes = tt;
  apart = tt;
  inner = tt;
}

pub gathered_later : (m n : ℕ) (s : Sum) → m ≤ n → IsGathered m s → IsGathered n s
gathered_later m n s l h = record { eight = h.eight; totals = wide s.totals h.totals; likes = wide_likes s.terms h.likes; apart = h.apart; inner = h.inner }
  where
    within : (z : ℤ) → IsWithin m z → IsWithin n z
    within z h = let p : m * 2 ^ 62 ≤ n * 2 ^ 62 = omega arith in omega arith

    wide : (cs : List ℤ) → AreTotals m cs → AreTotals n cs
    wide [] h = tt
    wide (c ∷ cs) h = (within c h.0, wide cs h.1)

    wide_likes : (rs : Remainders) → AreLikes m rs → AreLikes n rs
    wide_likes no_remainders h = tt
    wide_likes (remainder a f k rs) h = (within a h.0, h.1, h.2, wide_likes rs h.3)
