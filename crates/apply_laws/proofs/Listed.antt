-- How lists of outputs are made from lists of outputs.
use Rattle.std.proofs.Common.{◌≡◌, ◌⊎◌, inl, inr, Bool, true, false, List, [], ◌∷◌, ◌++◌, map, Option, Some, None, refl, sym, ap, ◌∙◌, ◌↔◌}
use Rattle.std.specs.declared.cmp.Ordering.{Ordering}
use Rattle.std.specs.declared.cmp.Ordering.TheVariants.{Less, Equal, Greater}
use Rattle.std.specs.Cmp.{IsTotalOrder}
use Rattle.std.specs.Ordering.{ordering_reverse}
use Rattle.model_sta.specs.Sets.{Each}
use Rattle.apply_laws.specs.Lists.{EachTwo, HasOf, by_order, merge, merge_after}
use Rattle.apply_laws.specs.Listing.{IsFar, IsListing, has_some, first_some}

module _ {X : Type 0} where
  pub each_map : {Y : Type 0} (P : Y → Type 0) (f : X → Y) (xs : List X) → Each (λ x. P (f x)) xs → Each P (map f xs)
  each_map P f [] h = tt
  each_map P f (x ∷ xs) h = (h.0, each_map P f xs h.1)

  pub each_weaker : (P Q : X → Type 0) → ((x : X) → P x → Q x) → (xs : List X) → Each P xs → Each Q xs
  each_weaker P Q f [] h = tt
  each_weaker P Q f (x ∷ xs) h = (f x h.0, each_weaker P Q f xs h.1)

  pub each_two_weaker : (P Q : X → X → Type 0) → ((x y : X) → P x y → Q x y) → (xs : List X) → EachTwo P xs → EachTwo Q xs
  each_two_weaker P Q f [] h = tt
  each_two_weaker P Q f (x ∷ xs) h = (each_weaker (P x) (Q x) (f x) xs h.0, each_two_weaker P Q f xs h.1)

  pub each_two_map : {Y : Type 0} (P : Y → Y → Type 0) (f : X → Y) (xs : List X) → EachTwo (λ x y. P (f x) (f y)) xs → EachTwo P (map f xs)
  each_two_map P f [] h = tt
  each_two_map P f (x ∷ xs) h = (each_map (P (f x)) f xs h.0, each_two_map P f xs h.1)

  pub each_append : (P : X → Type 0) (xs ys : List X) → Each P xs → Each P ys → Each P (xs ++ ys)
  each_append P [] ys h k = k
  each_append P (x ∷ xs) ys h k = (h.0, each_append P xs ys h.1 k)

  pub each_all : (P : X → Type 0) → ((x : X) → P x) → (xs : List X) → Each P xs
  each_all P f [] = tt
  each_all P f (x ∷ xs) = (f x, each_all P f xs)

  pub each_two_append : (P : X → X → Type 0) (xs ys : List X) → EachTwo P xs → EachTwo P ys → Each (λ x. Each (P x) ys) xs → EachTwo P (xs ++ ys)
  each_two_append P [] ys h k r = k
  each_two_append P (x ∷ xs) ys h k r = (each_append (P x) xs ys h.0 r.0, each_two_append P xs ys h.1 k r.1)

  module _ {Y : Type 0} (of : X → Y) where
    pub has_left : (xs ys : List X) (y : Y) → HasOf of xs y → HasOf of (xs ++ ys) y
    has_left [] ys y h = absurd h
    has_left (x ∷ xs) ys y (inl e) = inl e
    has_left (x ∷ xs) ys y (inr h) = inr (has_left xs ys y h)

    pub has_right : (xs ys : List X) (y : Y) → HasOf of ys y → HasOf of (xs ++ ys) y
    has_right [] ys y h = h
    has_right (x ∷ xs) ys y h = inr (has_right xs ys y h)

-- ---- one listing

module _ {X Y N : Type 0} (of : X → Y) (cmp : X → X → Ordering) (kept : Y → Bool) (Outside : Y → N → Type 0) where
  module _ (C : X → Type 0) (R : Y → Type 0) where
    -- nothing is listed or told only where there is no output
    pub dead : (xs : List X) (far : Option N) → IsListing of cmp kept Outside C R xs far → has_some xs far ≡ false → (y : Y) → R y → ⊥
    dead [] None h e y r = h.all y r (h.far_is y r)
    dead [] (Some n) h e y r = cc
    dead (x ∷ xs) far h e y r = cc

    pub alive : (xs : List X) (far : Option N) → IsListing of cmp kept Outside C R xs far → has_some xs far ≡ true → (y : Y) × R y
    alive [] None h e = cc
    alive [] (Some n) h e = (h.far_is.0, h.far_is.1)
    alive (x ∷ xs) far h e = (of x, h.are.0)

    -- no output
    pub none : ((y : Y) → R y → ⊥) → IsListing of cmp kept Outside C R [] None
    none f = record { each = tt; are = tt; keeps = tt; ascending = tt; all = λ y r k. absurd (f y r); far_is = λ y r. absurd (f y r) }

    -- no output that is kept, and one that has a number outside
    pub far_alone : (n : N) → ((y : Y) → R y → kept y ≡ true → ⊥) → (y : Y) → R y → Outside y n → IsListing of cmp kept Outside C R [] (Some n)
    far_alone n f y r o = record { each = tt; are = tt; keeps = tt; ascending = tt; all = λ y r k. absurd (f y r k); far_is = (y, r, o) }

    -- one output, which is kept
    pub single : (x : X) → C x → R (of x) → kept (of x) ≡ true → ((y : Y) → R y → of x ≡ y) → IsListing of cmp kept Outside C R (x ∷ []) None
    single x c r k f = record { each = (c, tt); are = (r, tt); keeps = (k, tt); ascending = (tt, tt); all = λ y s _. inl (f y s); far_is = λ y s. ap kept (sym (f y s)) ∙ k }

  far_alike : (R S : Y → Type 0) → ((y : Y) → R y ↔ S y) → (far : Option N) → IsFar kept Outside R far → IsFar kept Outside S far
  far_alike R S f None h = λ y s. h y ((f y).1 s)
  far_alike R S f (Some n) h = (h.0, (f h.0).0 h.1, h.2)

  -- the same outputs in other words
  pub alike : (C D : X → Type 0) (R S : Y → Type 0) → ((x : X) → C x → D x) → ((y : Y) → R y ↔ S y) → (xs : List X) (far : Option N) → IsListing of cmp kept Outside C R xs far → IsListing of cmp kept Outside D S xs far
  alike C D R S c f xs far h = record {
    each = each_weaker C D c xs h.each;
    are = each_weaker (λ x. R (of x)) (λ x. S (of x)) (λ x r. (f (of x)).0 r) xs h.are;
    keeps = h.keeps;
    ascending = h.ascending;
    all = λ y s k. h.all y ((f y).1 s) k;
    far_is = far_alike R S f far h.far_is;
  }

-- ---- two ascending lists as one

module _ {X Y : Type 0} (of : X → Y) (cmp : X → X → Ordering) (total : IsTotalOrder cmp) (same : (x y : X) → cmp x y ≡ Equal → of x ≡ of y) where
  by_cases : {Z : Type 0} (P : Z → Type 0) (r : Ordering) (a b c : Z) → (r ≡ Less → P a) → (r ≡ Equal → P b) → (r ≡ Greater → P c) → P (by_order r a b c)
  by_cases P Less a b c f g h = f refl
  by_cases P Equal a b c f g h = g refl
  by_cases P Greater a b c f g h = h refl

  module _ (P : X → Type 0) where
    pub each_merge : (xs ys : List X) → Each P xs → Each P ys → Each P (merge cmp xs ys)
    each_merge [] ys h k = k
    each_merge (x ∷ xs) ys h k = after x xs h.0 (λ zs q. each_merge xs zs h.1 q) ys k
      where
        after : (x : X) (xs : List X) → P x → ((zs : List X) → Each P zs → Each P (merge cmp xs zs)) → (ys : List X) → Each P ys → Each P (merge_after cmp x (merge cmp xs) ys)
        after x xs p f [] k = (p, f [] tt)
        after x xs p f (y ∷ ys) k = by_cases (Each P) (cmp x y) _ _ _ (λ _. (p, f (y ∷ ys) k)) (λ _. (p, f ys k.1)) (λ _. (k.0, after x xs p f ys k.1))

  flip : (x y : X) → cmp x y ≡ Greater → cmp y x ≡ Less
  flip x y e = total.antisymm y x ∙ ap ordering_reverse e

  under_all : (x y : X) (ys : List X) → cmp x y ≡ Less → Each (λ z. cmp y z ≡ Less) ys → Each (λ z. cmp x z ≡ Less) ys
  under_all x y ys e = each_weaker (λ z. cmp y z ≡ Less) (λ z. cmp x z ≡ Less) (λ z f. total.trans x y z e f) ys

  equal_all : (x y : X) (ys : List X) → cmp x y ≡ Equal → Each (λ z. cmp y z ≡ Less) ys → Each (λ z. cmp x z ≡ Less) ys
  equal_all x y ys e = each_weaker (λ z. cmp y z ≡ Less) (λ z. cmp x z ≡ Less) (λ z f. total.congr x y z e ∙ f) ys

  Ascending : List X → Type 0
  Ascending xs = EachTwo (λ x y. cmp x y ≡ Less) xs

  pub ascending_merge : (xs ys : List X) → EachTwo (λ x y. cmp x y ≡ Less) xs → EachTwo (λ x y. cmp x y ≡ Less) ys → EachTwo (λ x y. cmp x y ≡ Less) (merge cmp xs ys)
  ascending_merge [] ys h k = k
  ascending_merge (x ∷ xs) ys h k = after x xs h.0 (λ zs q. ascending_merge xs zs h.1 q) ys k
    where
      after : (x : X) (xs : List X) → Each (λ z. cmp x z ≡ Less) xs → ((zs : List X) → EachTwo (λ x y. cmp x y ≡ Less) zs → EachTwo (λ x y. cmp x y ≡ Less) (merge cmp xs zs)) → (ys : List X) → EachTwo (λ x y. cmp x y ≡ Less) ys → EachTwo (λ x y. cmp x y ≡ Less) (merge_after cmp x (merge cmp xs) ys)
      after x xs h f [] k = (each_merge (λ z. cmp x z ≡ Less) xs [] h tt, f [] tt)
      after x xs h f (y ∷ ys) k = by_cases (EachTwo (λ x y. cmp x y ≡ Less)) (cmp x y) _ _ _
          (λ e. (each_merge (λ z. cmp x z ≡ Less) xs (y ∷ ys) h (e, under_all x y ys e k.0), f (y ∷ ys) k))
          (λ e. (each_merge (λ z. cmp x z ≡ Less) xs ys h (equal_all x y ys e k.0), f ys k.1))
          (λ e. (each_merge (λ z. cmp y z ≡ Less) (x ∷ xs) ys (flip x y e, under_all y x xs (flip x y e) h) k.0, after x xs h f ys k.1))

  module _ (y : Y) (x : X) (xs : List X) (f : (zs : List X) → HasOf of xs y ⊎ HasOf of zs y → HasOf of (merge cmp xs zs) y) where
    first : (ys : List X) → HasOf of (x ∷ xs) y ⊎ HasOf of ys y → HasOf of (x ∷ merge cmp xs ys) y
    first ys (inl (inl e)) = inl e
    first ys (inl (inr h)) = inr (f ys (inl h))
    first ys (inr h) = inr (f ys (inr h))

    equal : (z : X) (zs : List X) → cmp x z ≡ Equal → HasOf of (x ∷ xs) y ⊎ HasOf of (z ∷ zs) y → HasOf of (x ∷ merge cmp xs zs) y
    equal z zs e (inl (inl g)) = inl g
    equal z zs e (inl (inr h)) = inr (f zs (inl h))
    equal z zs e (inr (inl g)) = inl (same x z e ∙ g)
    equal z zs e (inr (inr h)) = inr (f zs (inr h))

    later : (z : X) (zs more : List X) → (HasOf of (x ∷ xs) y ⊎ HasOf of zs y → HasOf of more y) → HasOf of (x ∷ xs) y ⊎ HasOf of (z ∷ zs) y → HasOf of (z ∷ more) y
    later z zs more g (inl h) = inr (g (inl h))
    later z zs more g (inr (inl e)) = inl e
    later z zs more g (inr (inr h)) = inr (g (inr h))

    has_after : (ys : List X) → HasOf of (x ∷ xs) y ⊎ HasOf of ys y → HasOf of (merge_after cmp x (merge cmp xs) ys) y
    has_after [] h = first [] h
    has_after (z ∷ zs) h = by_cases (λ l. HasOf of l y) (cmp x z) _ _ _ (λ _. first (z ∷ zs) h) (λ e. equal z zs e h) (λ _. later z zs (merge_after cmp x (merge cmp xs) zs) (has_after zs) h)

  pub has_merge : (xs ys : List X) (y : Y) → HasOf of xs y ⊎ HasOf of ys y → HasOf of (merge cmp xs ys) y
  has_merge [] ys y (inl h) = absurd h
  has_merge [] ys y (inr h) = h
  has_merge (x ∷ xs) ys y h = has_after y x xs (λ zs q. has_merge xs zs y q) ys h

module _ {X Y N : Type 0} (of : X → Y) (cmp : X → X → Ordering) (kept : Y → Bool) (Outside : Y → N → Type 0) (total : IsTotalOrder cmp) (same : (x y : X) → cmp x y ≡ Equal → of x ≡ of y) where
  far_union : (R S : Y → Type 0) (a b : Option N) → IsFar kept Outside R a → IsFar kept Outside S b → IsFar kept Outside (λ y. R y ⊎ S y) (first_some a b)
  far_union R S (Some n) b h k = (h.0, inl h.1, h.2)
  far_union R S None (Some n) h k = (k.0, inr k.1, k.2)
  far_union R S None None h k = λ y r. elim r [ inl x ↦ h y x | inr x ↦ k y x ]

  -- the outputs of either
  pub union : (C D : X → Type 0) (R S : Y → Type 0) (xs ys : List X) (a b : Option N) → IsListing of cmp kept Outside C R xs a → IsListing of cmp kept Outside D S ys b
      → IsListing of cmp kept Outside (λ x. C x ⊎ D x) (λ y. R y ⊎ S y) (merge cmp xs ys) (first_some a b)
  union C D R S xs ys a b h k = record {
    each = each_merge of cmp total same (λ x. C x ⊎ D x) xs ys (each_weaker C (λ x. C x ⊎ D x) (λ x c. inl c) xs h.each) (each_weaker D (λ x. C x ⊎ D x) (λ x d. inr d) ys k.each);
    are = each_merge of cmp total same (λ x. R (of x) ⊎ S (of x)) xs ys (each_weaker (λ x. R (of x)) (λ x. R (of x) ⊎ S (of x)) (λ x c. inl c) xs h.are) (each_weaker (λ x. S (of x)) (λ x. R (of x) ⊎ S (of x)) (λ x d. inr d) ys k.are);
    keeps = each_merge of cmp total same (λ x. kept (of x) ≡ true) xs ys h.keeps k.keeps;
    ascending = ascending_merge of cmp total same xs ys h.ascending k.ascending;
    all = λ y r e. has_merge of cmp total same xs ys y (elim r [ inl x ↦ inl (h.all y x e) | inr x ↦ inr (k.all y x e) ]);
    far_is = far_union R S a b h.far_is k.far_is;
  }
