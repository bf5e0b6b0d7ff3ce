-- Lists that loops make longer.
use Rattle.std.proofs.Common.{ℕ, ◌≡◌, ◌<◌, ◌≤◌, ◌+◌, Bool, true, false, cond, List, [], ◌∷◌, ◌++◌, map, filter, get_or, take, length, refl, sym, ap, ap₂, ◌∙◌, take_all, append_assoc}
use Rattle.std.proofs.lemmas.List.{map-append, take_more}
use Rattle.std.specs.List.{flat_map}

module _ {X Y : Type 0} (f : X → Y) (xs : List X) (i : ℕ) (x : X) (low : i < length xs) (at : x ≡ get_or xs i x) where
  pub taken : take (i + 1) xs ≡ take i xs ++ x ∷ []
  taken = take_more xs i x low ∙ ap (λ z. take i xs ++ z ∷ []) (sym at)

  pub mapped : map f (take (i + 1) xs) ≡ map f (take i xs) ++ f x ∷ []
  mapped = ap (map f) taken ∙ map-append f (take i xs) (x ∷ [])

  -- one more image of a list that a loop goes over
  pub grown : {U : Type 0} (g : U → Y) (base : List Y) (old new : List U) (u : U) → new ≡ old ++ u ∷ [] → g u ≡ f x → map g old ≡ base ++ map f (take i xs) → map g new ≡ base ++ map f (take (i + 1) xs)
  grown g base old new u is e h =
      ap (map g) is ∙ map-append g old (u ∷ []) ∙ ap₂ (λ a b. a ++ b ∷ []) h e ∙ append_assoc base (map f (take i xs)) (f x ∷ []) ∙ ap (λ z. base ++ z) (sym mapped)

pub all_taken : {X Y : Type 0} (f : List X → Y) (xs : List X) (i : ℕ) (y : Y) → length xs ≤ i → y ≡ f (take i xs) → y ≡ f xs
all_taken f xs i y high h = h ∙ ap f (take_all i xs high)

flat_append : {X Y : Type 0} (f : X → List Y) (xs : List X) (x : X) → flat_map f (xs ++ x ∷ []) ≡ flat_map f xs ++ f x
flat_append f [] x = right_end (f x)
  where
    right_end : {Z : Type 0} (zs : List Z) → zs ++ [] ≡ zs
    right_end [] = refl
    right_end (z ∷ zs) = ap (λ r. z ∷ r) (right_end zs)
flat_append f (z ∷ xs) x = ap (λ r. f z ++ r) (flat_append f xs x) ∙ sym (append_assoc (f z) (flat_map f xs) (f x))

-- one more list of images
pub grown_flat : {X Y : Type 0} (f : X → List Y) (xs : List X) (i : ℕ) (x : X) → i < length xs → x ≡ get_or xs i x → (old new : List Y) → new ≡ old ++ f x → old ≡ flat_map f (take i xs) → new ≡ flat_map f (take (i + 1) xs)
grown_flat f xs i x low at old new is h =
    is ∙ ap (λ z. z ++ f x) h ∙ sym (flat_append f (take i xs) x) ∙ ap (flat_map f) (sym (taken (λ z. z) xs i x low at))

filter_append : {X : Type 0} (p : X → Bool) (xs : List X) (x : X) → filter p (xs ++ x ∷ []) ≡ filter p xs ++ cond (p x) (x ∷ []) []
filter_append p [] x = refl
filter_append p (z ∷ xs) x = by (p z) (filter_append p xs x)
  where
    by : (b : Bool) → filter p (xs ++ x ∷ []) ≡ filter p xs ++ cond (p x) (x ∷ []) [] → cond b (z ∷ filter p (xs ++ x ∷ [])) (filter p (xs ++ x ∷ [])) ≡ cond b (z ∷ filter p xs) (filter p xs) ++ cond (p x) (x ∷ []) []
    by true h = ap (λ r. z ∷ r) h
    by false h = h

-- one more image of a list that is gone over, if it passes a test
module _ {X Y Z : Type 0} (p : Y → Bool) (h : X → Y) (f : Y → Z) (xs : List X) (i : ℕ) (x : X) (low : i < length xs) (at : x ≡ get_or xs i x) (base : List Z) where
  abbrev pub kept : List X → List Z
  kept ys = map f (filter p (map h ys))

  kept_more : (b : Bool) → p (h x) ≡ b → kept (take (i + 1) xs) ≡ kept (take i xs) ++ map f (cond b (h x ∷ []) [])
  kept_more b e =
      ap kept (taken (λ z. z) xs i x low at) ∙ ap (λ ys. map f (filter p ys)) (map-append h (take i xs) (x ∷ []))
      ∙ ap (map f) (filter_append p (map h (take i xs)) (h x) ∙ ap (λ c. filter p (map h (take i xs)) ++ cond c (h x ∷ []) []) e)
      ∙ map-append f (filter p (map h (take i xs))) (cond b (h x ∷ []) [])

  pub grown_kept : {U : Type 0} (g : U → Z) (old new : List U) (u : U) → p (h x) ≡ true → new ≡ old ++ u ∷ [] → g u ≡ f (h x) → map g old ≡ base ++ kept (take i xs) → map g new ≡ base ++ kept (take (i + 1) xs)
  grown_kept g old new u e is same before =
      ap (map g) is ∙ map-append g old (u ∷ []) ∙ ap₂ (λ a b. a ++ b ∷ []) before same ∙ append_assoc base (kept (take i xs)) (f (h x) ∷ []) ∙ ap (λ z. base ++ z) (sym (kept_more true e))

  pub not_kept : {U : Type 0} (g : U → Z) (old new : List U) → p (h x) ≡ false → new ≡ old → map g old ≡ base ++ kept (take i xs) → map g new ≡ base ++ kept (take (i + 1) xs)
  not_kept g old new e is before =
      ap (map g) is ∙ before ∙ ap (λ z. base ++ z) (sym (right_end (kept (take i xs))) ∙ sym (kept_more false e))
    where
      right_end : (zs : List Z) → zs ++ [] ≡ zs
      right_end [] = refl
      right_end (z ∷ zs) = ap (λ r. z ∷ r) (right_end zs)
