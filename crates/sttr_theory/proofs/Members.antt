-- What is in a list, as it is made.
use Rattle.std.specs.List.{flat_map}
use Rattle.std.proofs.Common.{zero, suc, ◌≡◌, ◌⊎◌, List, [], ◌∷◌, ◌++◌, map, Contains, refl, sym, ap, subst, inl, inr, arith}
use Rattle.sttr_theory.specs.Lists.{pairs}

pub here : {X : Type 0} (x : X) (xs : List X) → Contains (x ∷ xs) x
here x xs = (0, omega arith, refl)

pub there : {X : Type 0} (y : X) (xs : List X) (x : X) → Contains xs x → Contains (y ∷ xs) x
there y xs x (k, lt, e) = (suc k, omega arith, e)

module _ {X : Type 0} where
  pub in_left : (xs ys : List X) (x : X) → Contains xs x → Contains (xs ++ ys) x
  in_left [] ys x c = absurd (omega (arith, c.1))
  in_left (z ∷ xs) ys x (zero, lt, e) = (0, omega arith, e)
  in_left (z ∷ xs) ys x (suc k, lt, e) = there z (xs ++ ys) x (in_left xs ys x (k, omega (arith, lt), e))

  pub in_right : (xs ys : List X) (x : X) → Contains ys x → Contains (xs ++ ys) x
  in_right [] ys x c = c
  in_right (z ∷ xs) ys x c = there z (xs ++ ys) x (in_right xs ys x c)

  pub in_either : (xs ys : List X) (x : X) → Contains (xs ++ ys) x → Contains xs x ⊎ Contains ys x
  in_either [] ys x c = inr c
  in_either (z ∷ xs) ys x (zero, lt, e) = inl (0, omega arith, e)
  in_either (z ∷ xs) ys x (suc k, lt, e) = later (in_either xs ys x (k, omega (arith, lt), e))
    where
      later : Contains xs x ⊎ Contains ys x → Contains (z ∷ xs) x ⊎ Contains ys x
      later (inl c) = inl (there z xs x c)
      later (inr c) = inr c

  pub in_single : (x y : X) → Contains (x ∷ []) y → x ≡ y
  in_single x y (zero, lt, e) = e
  in_single x y (suc k, lt, e) = absurd (omega (arith, lt))

pub to_mapped : {X Y : Type 0} (f : X → Y) (xs : List X) (x : X) → Contains xs x → Contains (map f xs) (f x)
to_mapped f [] x c = absurd (omega arith)
to_mapped f (y ∷ xs) x (zero, lt, e) = (0, omega arith, ap f e)
to_mapped f (y ∷ xs) x (suc k, lt, e) = let (i, b, e') = to_mapped f xs x (k, omega arith, e) in (suc i, omega arith, e')

pub of_mapped : {X Y : Type 0} (f : X → Y) (xs : List X) (y : Y) → Contains (map f xs) y → (x : X) × Contains xs x × (f x ≡ y)
of_mapped f [] y c = absurd (omega arith)
of_mapped f (x ∷ xs) y (zero, lt, e) = (x, (0, omega arith, refl), e)
of_mapped f (x ∷ xs) y (suc k, lt, e) = let (x', (i, b, e'), is) = of_mapped f xs y (k, omega arith, e) in (x', (suc i, omega arith, e'), is)

module _ {X Y : Type 0} (F : X → List Y) where
  pub of_flat : (xs : List X) (y : Y) → Contains (flat_map F xs) y → (x : X) × Contains xs x × Contains (F x) y
  of_flat [] y c = absurd (omega (arith, c.1))
  of_flat (x ∷ xs) y c = at (of_flat xs y) (in_either (F x) (flat_map F xs) y c)
    where
      at : (Contains (flat_map F xs) y → (x : X) × Contains xs x × Contains (F x) y) → Contains (F x) y ⊎ Contains (flat_map F xs) y → (z : X) × Contains (x ∷ xs) z × Contains (F z) y
      at later (inl c) = (x, here x xs, c)
      at later (inr c) = let (z, z_in, c') = later c in (z, there x xs z z_in, c')

  pub to_flat : (xs : List X) (x : X) (y : Y) → Contains xs x → Contains (F x) y → Contains (flat_map F xs) y
  to_flat [] x y c at = absurd (omega (arith, c.1))
  to_flat (z ∷ xs) x y (zero, lt, e) at = in_left (F z) (flat_map F xs) y (subst (λ w. Contains (F w) y) (sym e) at)
  to_flat (z ∷ xs) x y (suc k, lt, e) at = in_right (F z) (flat_map F xs) y (to_flat xs x y (k, omega (arith, lt), e) at)

module _ {X Y Z : Type 0} (f : X → Y → Z) where
  pub of_pairs : (xs : List X) (ys : List Y) (z : Z) → Contains (pairs f xs ys) z → (x : X) × Contains xs x × (y : Y) × Contains ys y × (f x y ≡ z)
  of_pairs xs ys z c =
      let (x, at, c') = of_flat (λ x. map (f x) ys) xs z c in
      let (y, at', e) = of_mapped (f x) ys z c' in
      (x, at, y, at', e)

  pub to_pairs : (xs : List X) (ys : List Y) (x : X) (y : Y) → Contains xs x → Contains ys y → Contains (pairs f xs ys) (f x y)
  to_pairs xs ys x y c c' = to_flat (λ x. map (f x) ys) xs x (f x y) c (to_mapped (f x) ys y c')

pub map_append : {X Y : Type 0} (f : X → Y) (xs ys : List X) → map f (xs ++ ys) ≡ map f xs ++ map f ys
map_append f [] ys = refl
map_append f (x ∷ xs) ys = ap (λ zs. f x ∷ zs) (map_append f xs ys)
