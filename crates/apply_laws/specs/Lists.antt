-- Words on lists.
use Rattle.std.specs.Prelude.{◌≡◌, ◌⊎◌, ◌+◌, ℕ, List, [], ◌∷◌, ⊤}
use Rattle.std.specs.declared.cmp.Ordering.{Ordering}
use Rattle.std.specs.declared.cmp.Ordering.TheVariants.{Less, Equal, Greater}
use Rattle.model_sta.specs.Sets.{Each}

-- P holds of each two elements, the earlier one first
abbrev pub EachTwo : {X : Type 0} → (X → X → Type 0) → List X → Type 0
EachTwo P [] = ⊤
EachTwo P (x ∷ xs) = Each (P x) xs × EachTwo P xs

-- P holds of some element
abbrev pub OneOf : {X : Type 0} → (X → Type 0) → List X → Type 0
OneOf P [] = ⊥
OneOf P (x ∷ xs) = P x ⊎ OneOf P xs

-- some element is made y
abbrev pub HasOf : {X Y : Type 0} → (X → Y) → List X → Y → Type 0
HasOf of [] y = ⊥
HasOf of (x ∷ xs) y = (of x ≡ y) ⊎ HasOf of xs y

abbrev pub sum_of : {X : Type 0} → (X → ℕ) → List X → ℕ
sum_of f [] = 0
sum_of f (x ∷ xs) = f x + sum_of f xs

abbrev pub by_order : {Z : Type 0} → Ordering → Z → Z → Z → Z
by_order Less a b c = a
by_order Equal a b c = b
by_order Greater a b c = c

module _ {X : Type 0} (cmp : X → X → Ordering) where
  abbrev pub merge_after : X → (List X → List X) → List X → List X
  merge_after x rest [] = x ∷ rest []
  merge_after x rest (y ∷ ys) = by_order (cmp x y) (x ∷ rest (y ∷ ys)) (x ∷ rest ys) (y ∷ merge_after x rest ys)

  -- two ascending lists as one; of two elements that compare equal the first list's stays
  abbrev pub merge : List X → List X → List X
  merge [] ys = ys
  merge (x ∷ xs) ys = merge_after x (merge xs) ys
