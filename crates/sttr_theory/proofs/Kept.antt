-- Terms whose parts are the children as they are.
use Rattle.std.proofs.Common.{refl, ℕ, zero, suc, ◌+◌, ◌≡◌, ◌≤◌, ◌<◌, inl, inr, arith, eq-or-lt_of_le}
use Rattle.model_sttr.specs.Terms.{OccursIn, UsesIn, AreLinear}
use Rattle.model_sttr.specs.Transducer.{Head, identity}
use Rattle.model_sttr.specs.Guards.{MakesByOne}
use Rattle.model_sta.proofs.Least.{either_of}
use Rattle.sttr_theory.specs.Built.{kept}

-- the kept parts use the children from i on
pub kept_uses : (M : Type 0) (i n k : ℕ) → i ≤ k → k < i + n → UsesIn {M = M} k (kept i n)
kept_uses M i zero k low high = absurd (omega (arith, low, high))
kept_uses M i (suc n) k low high = either_of (λ e. e) (λ lt. kept_uses M (suc i) n k (omega (arith, lt)) (omega (arith, high))) (eq-or-lt_of_le low)

pub kept_used : (M : Type 0) (i n k : ℕ) → UsesIn {M = M} k (kept i n) → (i ≤ k) × (k < i + n)
kept_used M i zero k u = absurd u
kept_used M i (suc n) k (inl e) = (omega (arith, e), omega (arith, e))
kept_used M i (suc n) k (inr u) = let (low, high) = kept_used M (suc i) n k u in (omega (arith, low), omega (arith, high))

-- what stands at a child among them is the identity
pub kept_here : (M : Type 0) (i n k : ℕ) → i ≤ k → k < i + n → OccursIn {M = M} identity k (kept i n)
kept_here M i zero k low high = absurd (omega (arith, low, high))
kept_here M i (suc n) k low high = either_of (λ e. (refl, e)) (λ lt. kept_here M (suc i) n k (omega (arith, lt)) (omega (arith, high))) (eq-or-lt_of_le low)

pub kept_occurs : (M : Type 0) (h : Head) (i n k : ℕ) → OccursIn {M = M} h k (kept i n) → identity ≡ h
kept_occurs M h i zero k o = absurd o
kept_occurs M h i (suc n) k (inl o) = o.0
kept_occurs M h i (suc n) k (inr o) = kept_occurs M h (suc i) n k o

-- and no child twice
pub kept_linear : (M : Type 0) (i n : ℕ) → AreLinear {M = M} (kept i n)
kept_linear M i zero = tt
kept_linear M i (suc n) = (tt, kept_linear M (suc i) n, λ k e u. absurd (omega (arith, e, (kept_used M (suc i) n k u).0)))

-- they make no label
pub kept_makes : (M : Type 0) (i n : ℕ) (k : M) → MakesByOne (kept i n) k → ⊥
kept_makes M i zero k o = o
kept_makes M i (suc n) k (inl o) = o
kept_makes M i (suc n) k (inr o) = kept_makes M (suc i) n k o
