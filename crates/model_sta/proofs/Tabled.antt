-- Lists by what stands at each place.
use Rattle.std.proofs.Common.{ℕ, zero, suc, ◌≡◌, ◌<◌, List, [], ◌∷◌, get_or, length, refl, ap, ap₂, arith}
use Rattle.model_sta.specs.Tabled.{tabulate}

pub tabulate_length : {X : Type 0} (n : ℕ) (f : ℕ → X) → length (tabulate n f) ≡ n
tabulate_length zero f = refl
tabulate_length (suc n) f = ap suc (tabulate_length n (λ i. f (suc i)))

pub tabulate_at : {X : Type 0} (n : ℕ) (f : ℕ → X) (i : ℕ) (d : X) → i < n → get_or (tabulate n f) i d ≡ f i
tabulate_at zero f i d low = absurd (omega arith)
tabulate_at (suc n) f zero d low = refl
tabulate_at (suc n) f (suc i) d low = tabulate_at n (λ j. f (suc j)) i d (omega arith)

-- a list is one by its length and what stands at each place
pub tabulated : {X : Type 0} (xs : List X) (n : ℕ) (f : ℕ → X) (d : X) → length xs ≡ n → ((i : ℕ) → i < n → get_or xs i d ≡ f i) → xs ≡ tabulate n f
tabulated [] zero f d e h = refl
tabulated [] (suc n) f d e h = absurd (omega (arith, e))
tabulated (x ∷ xs) zero f d e h = absurd (omega (arith, e))
tabulated (x ∷ xs) (suc n) f d e h = ap₂ (λ y ys. y ∷ ys) (h 0 (omega arith)) (tabulated xs n (λ i. f (suc i)) d (omega (arith, e)) (λ i low. h (suc i) (omega arith)))
