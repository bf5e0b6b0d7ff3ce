-- What is in lists that grow.
use Rattle.std.proofs.Common.{ℕ, zero, suc, ◌+◌, ◌<◌, ◌≤◌, ◌≡◌, ◌⊎◌, inl, inr, List, [], ◌∷◌, ◌++◌, map, take, get_or, length, Contains, All, refl, sym, subst, ap, ◌∙◌, arith}
use Rattle.std.specs.Prelude.{Option, Some, None, IsSome}
use Rattle.std.specs.Option.{option_map}
use Rattle.std.proofs.lemmas.List.{take_more, get_or-map, get_or_past, length-map}
use Rattle.sttr_theory.proofs.Members.{here, in_either, in_left, in_right, in_single, to_mapped}

module _ {X : Type 0} where
  pub nil_out : (x : X) → Contains [] x → ⊥
  nil_out x at = absurd (omega (arith, at.1))

  pub cons_out : (y : X) (xs : List X) (x : X) → Contains (y ∷ xs) x → (y ≡ x) ⊎ Contains xs x
  cons_out y xs x (zero, low, is) = inl is
  cons_out y xs x (suc k, low, is) = inr (k, omega (arith, low), is)

  pub push_out : (xs : List X) (y x : X) → Contains (xs ++ y ∷ []) x → Contains xs x ⊎ (y ≡ x)
  push_out xs y x at = elim (in_either xs (y ∷ []) x at) [ inl a ↦ inl a | inr b ↦ inr (in_single y x b) ]

  pub push_old : (xs : List X) (y x : X) → Contains xs x → Contains (xs ++ y ∷ []) x
  push_old xs y x at = in_left xs (y ∷ []) x at

  pub push_new : (xs : List X) (y : X) → Contains (xs ++ y ∷ []) y
  push_new xs y = in_right xs (y ∷ []) y (here y [])

  -- one more element is gone over
  pub taken : (xs : List X) (i : ℕ) (x : X) → i < length xs → x ≡ get_or xs i x → take (i + 1) xs ≡ take i xs ++ x ∷ []
  taken xs i x low is = take_more xs i x low ∙ ap (λ y. take i xs ++ y ∷ []) (sym is)

  pub at_place : (xs : List X) (i : ℕ) (x : X) → i < length xs → x ≡ get_or xs i x → Contains xs x
  at_place xs i x low is = (i, low, sym is)

  pub all_at : (P : X → Type 0) (xs : List X) (x : X) → All P xs → Contains xs x → P x
  all_at P xs x all (k, low, is) = subst P is (all k x low)

  pub all_of : (P : X → Type 0) (xs : List X) → ((x : X) → Contains xs x → P x) → All P xs
  all_of P xs f = λ k d low. f (get_or xs k d) (k, low, at k d xs low)
    where
      at : (k : ℕ) (d : X) (xs : List X) → k < length xs → get_or xs k (get_or xs k d) ≡ get_or xs k d
      at k d [] low = absurd (omega (arith, low))
      at zero d (x ∷ xs) low = refl
      at (suc k) d (x ∷ xs) low = at k d xs (omega (arith, low))

pub all_push : {X : Type 0} (P : X → Type 0) (xs ys : List X) (x : X) → ys ≡ xs ++ x ∷ [] → All P xs → P x → All P ys
all_push P xs ys x e all p = subst (All P) (sym e) (all_of P (xs ++ x ∷ []) (λ y at. elim (push_out xs x y at) [ inl b ↦ all_at P xs y all b | inr is ↦ subst P is p ]))

-- a list of lists by place, through a function
pub found_at : {X Y : Type 0} (F : X → List Y) (xs : List X) (yss : List (List Y)) (i : ℕ) (x : X) → map F xs ≡ yss → i < length xs → x ≡ get_or xs i x → Contains yss (F x) × (get_or yss i [] ≡ F x)
found_at F xs yss i x e low is = (
  subst (λ zs. Contains zs (F x)) e (to_mapped F xs x (at_place xs i x low is)),
  subst (λ zs. get_or zs i [] ≡ F x) e (get_or-map F xs i x [] low ∙ ap F (sym is)),
)

pub none_at : {X Y : Type 0} (F : X → List Y) (xs : List X) (yss : List (List Y)) (i : ℕ) → map F xs ≡ yss → length xs ≤ i → get_or yss i [] ≡ []
none_at F xs yss i e high = subst (λ zs. get_or zs i [] ≡ []) e (get_or_past (map F xs) i [] (omega (arith, high, length-map xs F)))

-- there is something where it is mapped to something
pub some_mapped : {X Y : Type 0} (f : X → Y) (o : Option X) (y : Y) → option_map f o ≡ Some y → IsSome o
some_mapped f (Some x) y e = refl
some_mapped f None y e = cc

pub none_some : {X : Type 0} (o : Option X) → o ≡ None → IsSome o → ⊥
none_some None e h = cc
none_some (Some x) e h = cc
