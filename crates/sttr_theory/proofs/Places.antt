-- Places of lists.
use Rattle.std.proofs.Common.{ℕ, zero, suc, ◌≡◌, ◌<◌, List, [], ◌∷◌, length, ◌⊎◌, eq-or-lt_of_le, le_of_suc-le-suc, refl, arith}
use Rattle.sttr_theory.specs.Lists.{IsAt}

-- something stands at each place
pub at_place : {X : Type 0} (xs : List X) (i : ℕ) → i < length xs → (x : X) × IsAt xs i x
at_place [] i lt = absurd (omega arith)
at_place (x ∷ xs) zero lt = (x, (lt, refl))
at_place (x ∷ xs) (suc i) lt = let (y, (b, e)) = at_place xs i (omega arith) in (y, (lt, e))

pub last_or_before : (n q : ℕ) → q < suc n → (q ≡ n) ⊎ (q < n)
last_or_before n q lt = eq-or-lt_of_le (le_of_suc-le-suc lt)
