-- Tests over lists, by their elements.
use Rattle.std.proofs.Common.{ℕ, zero, suc, ◌≡◌, ◌<◌, ◌⊎◌, inl, inr, Bool, true, false, cond, not, List, [], ◌∷◌, ◌++◌, map, get_or, length, Contains, refl, sym, ap, ap₂, subst, ◌∙◌, arith}
use Rattle.std.proofs.lemmas.Bool.{and_parts, and_from, or_left, or_right, or_cases}
use Rattle.std.specs.List.{list_any, list_all, filter, flat_map}

pub bool_same : (a b : Bool) → (a ≡ true → b ≡ true) → (b ≡ true → a ≡ true) → a ≡ b
bool_same true b f g = sym (f refl)
bool_same false true f g = g refl
bool_same false false f g = refl

pub not_true : (b : Bool) → not b ≡ true → b ≡ false
not_true true h = cc
not_true false h = refl

pub not_false : (b : Bool) → b ≡ false → not b ≡ true
not_false true h = cc
not_false false h = refl

module _ {X : Type 0} where
  pub first_in : (x : X) (xs : List X) → Contains (x ∷ xs) x
  first_in x xs = (0, omega arith, refl)

  pub later_in : (x y : X) (xs : List X) → Contains xs y → Contains (x ∷ xs) y
  later_in x y xs at = (suc at.0, omega (arith, at.1), at.2)

  pub none_in : (x : X) → Contains [] x → ⊥
  none_in x at = absurd (omega (arith, at.1))

module _ {X : Type 0} (p : X → Bool) where
  pub any_member : (xs : List X) → list_any p xs ≡ true → (x : X) × Contains xs x × (p x ≡ true)
  any_member [] h = absurd (cc)
  any_member (x ∷ xs) h = elim (or_cases (p x) (list_any p xs) h) [
    | inl e ↦ (x, first_in x xs, e)
    | inr later ↦ (let (y, at, e) = any_member xs later in (y, later_in x y xs at, e))
  ]

  any_at : (xs : List X) (x : X) (k : ℕ) → k < length xs → get_or xs k x ≡ x → p x ≡ true → list_any p xs ≡ true
  any_at [] x k l e h = absurd (omega arith)
  any_at (y ∷ xs) x zero l e h = or_left (p y) (list_any p xs) (ap p e ∙ h)
  any_at (y ∷ xs) x (suc k) l e h = or_right (p y) (list_any p xs) (any_at xs x k (omega arith) e h)

  pub any_true : (xs : List X) (x : X) → Contains xs x → p x ≡ true → list_any p xs ≡ true
  any_true xs x at h = any_at xs x at.0 at.1 at.2 h

  all_at : (xs : List X) (x : X) (k : ℕ) → k < length xs → get_or xs k x ≡ x → list_all p xs ≡ true → p x ≡ true
  all_at [] x k l e h = absurd (omega arith)
  all_at (y ∷ xs) x zero l e h = sym (ap p e) ∙ (and_parts (p y) (list_all p xs) h).0
  all_at (y ∷ xs) x (suc k) l e h = all_at xs x k (omega arith) e (and_parts (p y) (list_all p xs) h).1

  pub all_member : (xs : List X) (x : X) → Contains xs x → list_all p xs ≡ true → p x ≡ true
  all_member xs x at h = all_at xs x at.0 at.1 at.2 h

  pub all_true : (xs : List X) → ((x : X) → Contains xs x → p x ≡ true) → list_all p xs ≡ true
  all_true [] f = refl
  all_true (x ∷ xs) f = and_from (p x) (list_all p xs) (f x (first_in x xs)) (all_true xs (λ y at. f y (later_in x y xs at)))

-- two functions that agree at each place of a list
pub map_same : {X Y : Type 0} (f g : X → Y) (xs : List X) (d : X) → ((i : ℕ) → f (get_or xs i d) ≡ g (get_or xs i d)) → map f xs ≡ map g xs
map_same f g [] d h = refl
map_same f g (x ∷ xs) d h = ap₂ (λ y ys. y ∷ ys) (h 0) (map_same f g xs d (λ i. h (suc i)))

map_at : {X Y : Type 0} (f : X → Y) (xs : List X) (y : Y) (k : ℕ) → k < length (map f xs) → get_or (map f xs) k y ≡ y → (x : X) × Contains xs x × (f x ≡ y)
map_at f [] y k l e = absurd (omega arith)
map_at f (x ∷ xs) y zero l e = (x, first_in x xs, e)
map_at f (x ∷ xs) y (suc k) l e = let (z, at, is) = map_at f xs y k (omega arith) e in (z, later_in x z xs at, is)

-- what a mapped list contains
pub map_member : {X Y : Type 0} (f : X → Y) (xs : List X) (y : Y) → Contains (map f xs) y → (x : X) × Contains xs x × (f x ≡ y)
map_member f xs y at = map_at f xs y at.0 at.1 at.2

in_map_at : {X Y : Type 0} (f : X → Y) (xs : List X) (x : X) (k : ℕ) → k < length xs → get_or xs k x ≡ x → Contains (map f xs) (f x)
in_map_at f [] x k l e = absurd (omega arith)
in_map_at f (z ∷ xs) x zero l e = (0, omega arith, ap f e)
in_map_at f (z ∷ xs) x (suc k) l e = later_in (f z) (f x) (map f xs) (in_map_at f xs x k (omega arith) e)

pub in_map : {X Y : Type 0} (f : X → Y) (xs : List X) (x : X) → Contains xs x → Contains (map f xs) (f x)
in_map f xs x at = in_map_at f xs x at.0 at.1 at.2

append_at : {X : Type 0} (xs ys : List X) (y : X) (k : ℕ) → k < length (xs ++ ys) → get_or (xs ++ ys) k y ≡ y → Contains xs y ⊎ Contains ys y
append_at [] ys y k l e = inr (k, l, e)
append_at (x ∷ xs) ys y zero l e = inl (0, omega arith, e)
append_at (x ∷ xs) ys y (suc k) l e = elim (append_at xs ys y k (omega arith) e) [ inl at ↦ inl (later_in x y xs at) | inr at ↦ inr at ]

-- what a list behind another contains
pub append_member : {X : Type 0} (xs ys : List X) (y : X) → Contains (xs ++ ys) y → Contains xs y ⊎ Contains ys y
append_member xs ys y at = append_at xs ys y at.0 at.1 at.2

in_append_left_at : {X : Type 0} (xs ys : List X) (x : X) (k : ℕ) → k < length xs → get_or xs k x ≡ x → Contains (xs ++ ys) x
in_append_left_at [] ys x k l e = absurd (omega arith)
in_append_left_at (z ∷ xs) ys x zero l e = (0, omega arith, e)
in_append_left_at (z ∷ xs) ys x (suc k) l e = later_in z x (xs ++ ys) (in_append_left_at xs ys x k (omega arith) e)

pub in_left : {X : Type 0} (xs ys : List X) (x : X) → Contains xs x → Contains (xs ++ ys) x
in_left xs ys x at = in_append_left_at xs ys x at.0 at.1 at.2

pub in_right : {X : Type 0} (xs ys : List X) (y : X) → Contains ys y → Contains (xs ++ ys) y
in_right [] ys y at = at
in_right (x ∷ xs) ys y at = later_in x y (xs ++ ys) (in_right xs ys y at)

module _ {X Y : Type 0} (f : X → List Y) where
  pub flat_member : (xs : List X) (y : Y) → Contains (flat_map f xs) y → (x : X) × Contains xs x × Contains (f x) y
  flat_member [] y at = absurd (none_in y at)
  flat_member (x ∷ xs) y at = elim (append_member (f x) (flat_map f xs) y at) [
    | inl here ↦ (x, first_in x xs, here)
    | inr there ↦ (let (z, at_z, h) = flat_member xs y there in (z, later_in x z xs at_z, h))
  ]

  in_flat_at : (xs : List X) (x : X) (y : Y) (k : ℕ) → k < length xs → get_or xs k x ≡ x → Contains (f x) y → Contains (flat_map f xs) y
  in_flat_at [] x y k l e h = absurd (omega arith)
  in_flat_at (z ∷ xs) x y zero l e h = in_left (f z) (flat_map f xs) y (subst (λ u. Contains (f u) y) (sym e) h)
  in_flat_at (z ∷ xs) x y (suc k) l e h = in_right (f z) (flat_map f xs) y (in_flat_at xs x y k (omega arith) e h)

  pub in_flat : (xs : List X) (x : X) (y : Y) → Contains xs x → Contains (f x) y → Contains (flat_map f xs) y
  in_flat xs x y at h = in_flat_at xs x y at.0 at.1 at.2 h

module _ {X : Type 0} (p : X → Bool) where
  pub filter_member : (xs : List X) (x : X) → Contains (filter p xs) x → Contains xs x × (p x ≡ true)
  filter_member [] x at = absurd (none_in x at)
  filter_member (z ∷ xs) x at = of_cond (p z) refl (filter_member xs x) at
    where
      of_first : (k : ℕ) → p z ≡ true → (Contains (filter p xs) x → Contains xs x × (p x ≡ true)) → k < suc (length (filter p xs)) → get_or (z ∷ filter p xs) k x ≡ x → Contains (z ∷ xs) x × (p x ≡ true)
      of_first zero t old l e = ((0, omega arith, e), sym (ap p e) ∙ t)
      of_first (suc k) t old l e = let h = old (k, omega arith, e) in (later_in z x xs h.0, h.1)

      of_cond : (b : Bool) → p z ≡ b → (Contains (filter p xs) x → Contains xs x × (p x ≡ true)) → Contains (cond b (z ∷ filter p xs) (filter p xs)) x → Contains (z ∷ xs) x × (p x ≡ true)
      of_cond true t old at = of_first at.0 t old at.1 at.2
      of_cond false t old at = let h = old at in (later_in z x xs h.0, h.1)

  in_filter_at : (xs : List X) (x : X) (k : ℕ) → k < length xs → get_or xs k x ≡ x → p x ≡ true → Contains (filter p xs) x
  in_filter_at [] x k l e h = absurd (omega arith)
  in_filter_at (z ∷ xs) x zero l e h = subst (λ b. Contains (cond b (z ∷ filter p xs) (filter p xs)) x) (sym (ap p e ∙ h)) (0, omega arith, e)
  in_filter_at (z ∷ xs) x (suc k) l e h = of_cond (p z) (in_filter_at xs x k (omega arith) e h)
    where
      of_cond : (b : Bool) → Contains (filter p xs) x → Contains (cond b (z ∷ filter p xs) (filter p xs)) x
      of_cond true at = later_in z x (filter p xs) at
      of_cond false at = at

  pub in_filter : (xs : List X) (x : X) → Contains xs x → p x ≡ true → Contains (filter p xs) x
  in_filter xs x at h = in_filter_at xs x at.0 at.1 at.2 h
