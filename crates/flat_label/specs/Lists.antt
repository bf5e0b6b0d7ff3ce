-- Lists that compare equal, and lists with the same images.
use Rattle.std.specs.Prelude.{◌≡◌, ◌↔◌, List, [], ◌∷◌, map, refl}
use Rattle.std.specs.declared.cmp.Ordering.{Ordering}
use Rattle.std.specs.declared.cmp.Ordering.TheVariants.{Less, Equal, Greater}
use Rattle.std.specs.Ordering.{ordering_then}
use Rattle.std.specs.Cmp.Lexicographic.{slice_cmp}
use Rattle.std.proofs.Common.{subst}

both_equal : (r s : Ordering) → ordering_then r s ≡ Equal → (r ≡ Equal) × (s ≡ Equal)
both_equal Less s e = cc
both_equal Equal s e = (refl, e)
both_equal Greater s e = cc

module _ {X : Type 0} (R : X → X → Ordering) (exact : (x y : X) → (R x y ≡ Equal) ↔ (x ≡ y)) where
  cmp_itself : (xs : List X) → slice_cmp R xs xs ≡ Equal
  cmp_itself [] = refl
  cmp_itself (x ∷ xs) = rw ((exact x x).1 refl) (cmp_itself xs)

  same_from_cmp : (xs ys : List X) → slice_cmp R xs ys ≡ Equal → xs ≡ ys
  same_from_cmp [] [] e = refl
  same_from_cmp [] (y ∷ ys) e = cc
  same_from_cmp (x ∷ xs) [] e = cc
  same_from_cmp (x ∷ xs) (y ∷ ys) e =
      let parts = both_equal (R x y) (slice_cmp R xs ys) e in
      let head : x ≡ y = (exact x y).0 parts.0 in
      let tail : xs ≡ ys = same_from_cmp xs ys parts.1 in λ i. head i ∷ tail i

  -- lists compare equal exactly where they are one
  pub equal_lists : (xs ys : List X) → (slice_cmp R xs ys ≡ Equal) ↔ (xs ≡ ys)
  equal_lists xs ys = (same_from_cmp xs ys, λ e. subst (λ zs. slice_cmp R xs zs ≡ Equal) e (cmp_itself xs))

module _ {X Y : Type 0} (f : X → Y) (apart : (x y : X) → f x ≡ f y → x ≡ y) where
  -- images of one list alone are the same
  pub same_from_images : (xs ys : List X) → map f xs ≡ map f ys → xs ≡ ys
  same_from_images [] [] e = refl
  same_from_images [] (y ∷ ys) e = cc
  same_from_images (x ∷ xs) [] e = cc
  same_from_images (x ∷ xs) (y ∷ ys) e =
      let first : f x ≡ f y = cc in
      let later : map f xs ≡ map f ys = cc in
      let head : x ≡ y = apart x y first in
      let tail : xs ≡ ys = same_from_images xs ys later in λ i. head i ∷ tail i
