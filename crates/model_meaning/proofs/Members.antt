-- Elements of short lists.
use Rattle.std.proofs.Common.{◌≡◌, zero, suc, ◌⊎◌, inl, inr, List, [], ◌∷◌, Contains, arith}

pub one_of : {A : Type 0} (x y : A) (xs : List A) → Contains (x ∷ xs) y → (x ≡ y) ⊎ Contains xs y
one_of x y xs (zero, low, is) = inl is
one_of x y xs (suc k, low, is) = inr (k, omega (arith, low), is)

pub none_of : {A : Type 0} (y : A) → ¬ (Contains [] y)
none_of y (k, low, is) = omega (arith, low)
