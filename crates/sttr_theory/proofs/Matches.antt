-- Lists that match, as they are made.
use Rattle.std.proofs.Common.{◌⊎◌, List, [], ◌∷◌, ◌++◌, Contains, subst, inl, inr, arith}
use Rattle.model_sta.specs.Sets.{Each}
use Rattle.sttr_theory.specs.Lists.{Match}
use Rattle.sttr_theory.proofs.Members.{here, in_left, in_right, in_either, in_single}
use Rattle.sttr_theory.proofs.Each.{each_at, each_all}

module _ {X Y : Type 0} (R : X → Y → Type 0) where
  pub match_none : Match R [] []
  match_none = (λ x c. absurd (omega (arith, c.1)), λ y c. absurd (omega (arith, c.1)))

  pub match_one : (x : X) (y : Y) → R x y → Match R (x ∷ []) (y ∷ [])
  match_one x y r = (λ z c. (y, here y [], subst (λ z. R z y) (in_single x z c) r), λ z c. (x, here x [], subst (λ z. R x z) (in_single y z c) r))

  pub match_append : (xs xs' : List X) (ys ys' : List Y) → Match R xs ys → Match R xs' ys' → Match R (xs ++ xs') (ys ++ ys')
  match_append xs xs' ys ys' m n = (λ x c. out x (in_either xs xs' x c), λ y c. back y (in_either ys ys' y c))
    where
      out : (x : X) → Contains xs x ⊎ Contains xs' x → (y : Y) × Contains (ys ++ ys') y × R x y
      out x (inl c) = let (y, at, r) = m.0 x c in (y, in_left ys ys' y at, r)
      out x (inr c) = let (y, at, r) = n.0 x c in (y, in_right ys ys' y at, r)

      back : (y : Y) → Contains ys y ⊎ Contains ys' y → (x : X) × Contains (xs ++ xs') x × R x y
      back y (inl c) = let (x, at, r) = m.1 y c in (x, in_left xs xs' x at, r)
      back y (inr c) = let (x, at, r) = n.1 y c in (x, in_right xs xs' x at, r)

  -- one more, or one more that is there already
  pub match_more : (xs : List X) (ys : List Y) (x : X) (y : Y) → Match R xs ys → R x y → Match R (xs ++ x ∷ []) (ys ++ y ∷ [])
  match_more xs ys x y m r = match_append xs (x ∷ []) ys (y ∷ []) m (match_one x y r)

  pub match_again : (xs : List X) (ys : List Y) (x : X) (y : Y) → Match R xs ys → Contains xs x → R x y → Match R xs (ys ++ y ∷ [])
  match_again xs ys x y m at r = (λ z c. let (w, at', r') = m.0 z c in (w, in_left ys (y ∷ []) w at', r'), λ w c. back w (in_either ys (y ∷ []) w c))
    where
      back : (w : Y) → Contains ys w ⊎ Contains (y ∷ []) w → (z : X) × Contains xs z × R z w
      back w (inl c) = m.1 w c
      back w (inr c) = (x, at, subst (λ z. R x z) (in_single y w c) r)

module _ {X Y : Type 0} (R S : X → Y → Type 0) (f : (x : X) (y : Y) → R x y → S x y) where
  pub match_map : (xs : List X) (ys : List Y) → Match R xs ys → Match S xs ys
  match_map xs ys m = (λ x c. let (y, at, r) = m.0 x c in (y, at, f x y r), λ y c. let (x, at, r) = m.1 y c in (x, at, f x y r))

module _ {X : Type 0} (R : X → X → Type 0) where
  pub match_self : ((x : X) → R x x) → (xs : List X) → Match R xs xs
  match_self is xs = (λ x c. (x, c, is x), λ x c. (x, c, is x))

  pub match_turned : ((x y : X) → R x y → R y x) → (xs ys : List X) → Match R xs ys → Match R ys xs
  match_turned turn xs ys m = (λ y c. let (x, at, r) = m.1 y c in (x, at, turn x y r), λ x c. let (y, at, r) = m.0 x c in (y, at, turn x y r))

  pub match_twice : ((x y z : X) → R x y → R y z → R x z) → (xs ys zs : List X) → Match R xs ys → Match R ys zs → Match R xs zs
  match_twice both xs ys zs m n = (
    λ x c. let (y, at, r) = m.0 x c in let (z, at', s) = n.0 y at in (z, at', both x y z r s),
    λ z c. let (y, at, s) = n.1 z c in let (x, at', r) = m.1 y at in (x, at', both x y z r s),
  )

-- what holds of each of one list holds of each of another that matches it
pub match_out : {X Y : Type 0} (R : X → Y → Type 0) (P : X → Type 0) (Q : Y → Type 0) → ((x : X) (y : Y) → R x y → P x → Q y) → (xs : List X) (ys : List Y) → Match R xs ys → Each P xs → Each Q ys
match_out R P Q f xs ys m e = each_all Q ys (λ y c. let (x, here, r) = m.1 y c in f x y r (each_at P xs x e here))

pub match_in : {X Y : Type 0} (R : X → Y → Type 0) (P : X → Type 0) (Q : Y → Type 0) → ((x : X) (y : Y) → R x y → Q y → P x) → (xs : List X) (ys : List Y) → Match R xs ys → Each Q ys → Each P xs
match_in R P Q f xs ys m e = each_all P xs (λ x c. let (y, there, r) = m.0 x c in f x y r (each_at Q ys y e there))
