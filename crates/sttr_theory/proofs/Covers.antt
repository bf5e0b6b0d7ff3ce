-- What covers a list, as lists are made.
use Rattle.std.specs.List.{flat_map}
use Rattle.std.proofs.Common.{Bool, true, false, ◌≡◌, ◌⊎◌, List, [], ◌∷◌, ◌++◌, map, Contains, refl, sym, ap, subst, ◌∙◌, inl, inr, arith, append-nil}
use Rattle.std.proofs.lemmas.List.{append_assoc}
use Rattle.model_sta.specs.Sets.{Each}
use Rattle.sttr_theory.specs.Lists.{pairs, Match}
use Rattle.sttr_theory.specs.Covers.{Covers, Never}
use Rattle.sttr_theory.proofs.Members.{in_left, in_right, in_either, in_single, here, to_mapped, of_mapped, to_flat, of_flat}
use Rattle.sttr_theory.proofs.Each.{each_at, each_all, each_to_map}

module _ {Y Z : Type 0} (R : Y → Z → Type 0) (Out : Z → Type 0) where
  pub covers_none : Covers R Out [] []
  covers_none = record { only = λ y c. absurd (omega (arith, c.1)); all = λ z c. absurd (omega (arith, c.1)) }

  pub covers_append : (ys ys' : List Y) (zs zs' : List Z) → Covers R Out ys zs → Covers R Out ys' zs' → Covers R Out (ys ++ ys') (zs ++ zs')
  covers_append ys ys' zs zs' a b = record { only = λ y c. only y (in_either ys ys' y c); all = λ z c. all z (in_either zs zs' z c) }
    where
      only : (y : Y) → Contains ys y ⊎ Contains ys' y → (z : Z) × Contains (zs ++ zs') z × R y z
      only y (inl c) = let (z, at, r) = a.only y c in (z, in_left zs zs' z at, r)
      only y (inr c) = let (z, at, r) = b.only y c in (z, in_right zs zs' z at, r)

      left : (z : Z) → ((y : Y) × Contains ys y × R y z) ⊎ Out z → ((y : Y) × Contains (ys ++ ys') y × R y z) ⊎ Out z
      left z (inl (y, at, r)) = inl (y, in_left ys ys' y at, r)
      left z (inr o) = inr o

      right : (z : Z) → ((y : Y) × Contains ys' y × R y z) ⊎ Out z → ((y : Y) × Contains (ys ++ ys') y × R y z) ⊎ Out z
      right z (inl (y, at, r)) = inl (y, in_right ys ys' y at, r)
      right z (inr o) = inr o

      all : (z : Z) → Contains zs z ⊎ Contains zs' z → ((y : Y) × Contains (ys ++ ys') y × R y z) ⊎ Out z
      all z (inl c) = left z (a.all z c)
      all z (inr c) = right z (b.all z c)

  pub covers_one : (y : Y) (z : Z) → R y z → Covers R Out (y ∷ []) (z ∷ [])
  covers_one y z r = record {
    only = λ x c. (z, here z [], subst (λ x. R x z) (in_single y x c) r);
    all = λ x c. inl (y, here y [], subst (λ x. R y x) (in_single z x c) r);
  }

  -- what doesn't count
  pub covers_out : (zs : List Z) → Each Out zs → Covers R Out [] zs
  covers_out zs out = record { only = λ y c. absurd (omega (arith, c.1)); all = λ z c. inr (each_at Out zs z out c) }

  -- one more
  pub covers_more : (ys : List Y) (zs : List Z) (y : Y) (z : Z) → Covers R Out ys zs → R y z → Covers R Out (ys ++ y ∷ []) (zs ++ z ∷ [])
  covers_more ys zs y z a r = covers_append ys (y ∷ []) zs (z ∷ []) a (covers_one y z r)

  -- several more that don't count, or one
  pub covers_skip_all : (ys : List Y) (zs zs' : List Z) → Covers R Out ys zs → Each Out zs' → Covers R Out ys (zs ++ zs')
  covers_skip_all ys zs zs' a out = subst (λ xs. Covers R Out xs (zs ++ zs')) (append-nil ys) (covers_append ys [] zs zs' a (covers_out zs' out))

  pub covers_skip : (ys : List Y) (zs : List Z) (z : Z) → Covers R Out ys zs → Out z → Covers R Out ys (zs ++ z ∷ [])
  covers_skip ys zs z a o = covers_skip_all ys zs (z ∷ []) a (o, tt)

  -- one more that is there already
  pub covers_again : (ys : List Y) (zs : List Z) (y : Y) (z : Z) → Covers R Out ys zs → Contains ys y → R y z → Covers R Out ys (zs ++ z ∷ [])
  covers_again ys zs y z a at r = record { only = λ x c. let (z', at', r') = a.only x c in (z', in_left zs (z ∷ []) z' at', r'); all = λ x c. all x (in_either zs (z ∷ []) x c) }
    where
      all : (x : Z) → Contains zs x ⊎ Contains (z ∷ []) x → ((y : Y) × Contains ys y × R y x) ⊎ Out x
      all x (inl c) = a.all x c
      all x (inr c) = inl (y, at, subst (λ x. R y x) (in_single z x c) r)

  -- only what is in the lists counts
  pub covers_members : (ys ys' : List Y) (zs zs' : List Z) → ((y : Y) → Contains ys y → Contains ys' y) → ((y : Y) → Contains ys' y → Contains ys y) → ((z : Z) → Contains zs z → Contains zs' z) → ((z : Z) → Contains zs' z → Contains zs z)
      → Covers R Out ys zs → Covers R Out ys' zs'
  covers_members ys ys' zs zs' to fro to' fro' a = record { only = λ y c. let (z, at, r) = a.only y (fro y c) in (z, to' z at, r); all = λ z c. all z (a.all z (fro' z c)) }
    where
      all : (z : Z) → ((y : Y) × Contains ys y × R y z) ⊎ Out z → ((y : Y) × Contains ys' y × R y z) ⊎ Out z
      all z (inl (y, at, r)) = inl (y, to y at, r)
      all z (inr o) = inr o

  -- each has its match
  pub covers_match : (ys : List Y) (zs : List Z) → Match R ys zs → Covers R Out ys zs
  covers_match ys zs m = record { only = λ y c. m.0 y c; all = λ z c. inl (m.1 z c) }

  -- all are there, each as what is made of it
  pub covers_made : (make : Z → Y) (zs : List Z) → ((z : Z) → Contains zs z → R (make z) z) → Covers R Out (map make zs) zs
  covers_made make zs is = record {
    only = λ y c. let (z, at, e) = of_mapped make zs y c in (z, at, subst (λ x. R x z) e (is z at));
    all = λ z c. inl (make z, to_mapped make zs z c, is z c);
  }

-- a relation that says less
pub covers_weaker : {Y Z : Type 0} (R S : Y → Z → Type 0) (Out Out' : Z → Type 0) → ((y : Y) (z : Z) → R y z → S y z) → ((z : Z) → Out z → Out' z) → (ys : List Y) (zs : List Z) → Covers R Out ys zs → Covers S Out' ys zs
covers_weaker {Y} {Z} R S Out Out' is out ys zs a = record { only = λ y c. let (z, at, r) = a.only y c in (z, at, is y z r); all = λ z c. all z (a.all z c) }
  where
    all : (z : Z) → ((y : Y) × Contains ys y × R y z) ⊎ Out z → ((y : Y) × Contains ys y × S y z) ⊎ Out' z
    all z (inl (y, at, r)) = inl (y, at, is y z r)
    all z (inr o) = inr (out z o)

pub covers_self : {Z : Type 0} (R : Z → Z → Type 0) (Out : Z → Type 0) → ((z : Z) → R z z) → (zs : List Z) → Covers R Out zs zs
covers_self R Out is zs = record { only = λ z c. (z, c, is z); all = λ z c. inl (z, c, is z) }

-- by way of a third
pub covers_through : {X Y Z : Type 0} (R : X → Y → Type 0) (Out : Y → Type 0) (S : Y → Z → Type 0) (Out' : Z → Type 0) (Q : X → Z → Type 0)
    → ((x : X) (y : Y) (z : Z) → R x y → S y z → Q x z) → ((y : Y) (z : Z) → S y z → Out y → Out' z) → (xs : List X) (ys : List Y) (zs : List Z) → Covers R Out xs ys → Covers S Out' ys zs → Covers Q Out' xs zs
covers_through {X} {Y} {Z} R Out S Out' Q both out xs ys zs a b = record {
  only = λ x c. let (y, at, r) = a.only x c in let (z, at', s) = b.only y at in (z, at', both x y z r s);
  all = λ z c. all z (b.all z c);
}
  where
    first : (y : Y) (z : Z) → S y z → ((x : X) × Contains xs x × R x y) ⊎ Out y → ((x : X) × Contains xs x × Q x z) ⊎ Out' z
    first y z s (inl (x, at, r)) = inl (x, at, both x y z r s)
    first y z s (inr o) = inr (out y z s o)

    all : (z : Z) → ((y : Y) × Contains ys y × S y z) ⊎ Out' z → ((x : X) × Contains xs x × Q x z) ⊎ Out' z
    all z (inl (y, at, s)) = first y z s (a.all y at)
    all z (inr o) = inr o

module _ {Y Z Y' Z' : Type 0} (R : Y → Z → Type 0) (Out : Z → Type 0) (S : Y' → Z' → Type 0) (Out' : Z' → Type 0) where
  pub covers_map : (f : Y → Y') (g : Z → Z') → ((y : Y) (z : Z) → R y z → S (f y) (g z)) → ((z : Z) → Out z → Out' (g z)) → (ys : List Y) (zs : List Z) → Covers R Out ys zs → Covers S Out' (map f ys) (map g zs)
  covers_map f g is out ys zs a = record {
    only = λ y c. let (x, at, e) = of_mapped f ys y c in let (z, at', r) = a.only x at in (g z, to_mapped g zs z at', subst (λ y. S y (g z)) e (is x z r));
    all = λ z c. let (x, at, e) = of_mapped g zs z c in subst (λ z. ((y : Y') × Contains (map f ys) y × S y z) ⊎ Out' z) e (all x (a.all x at));
  }
    where
      all : (x : Z) → ((y : Y) × Contains ys y × R y x) ⊎ Out x → ((y : Y') × Contains (map f ys) y × S y (g x)) ⊎ Out' (g x)
      all x (inl (y, at, r)) = inl (f y, to_mapped f ys y at, is y x r)
      all x (inr o) = inr (out x o)

  -- what is made of each in several ways
  pub covers_flat : (f : Y → List Y') (g : Z → List Z') (ys : List Y) (zs : List Z) → ((y : Y) (z : Z) → Contains ys y → Contains zs z → R y z → Covers S Out' (f y) (g z)) → ((z : Z) → Contains zs z → Out z → Each Out' (g z)) → Covers R Out ys zs → Covers S Out' (flat_map f ys) (flat_map g zs)
  covers_flat f g ys zs is out a = record {
    only = λ y c. let (x, at, c') = of_flat f ys y c in let (z, at', r) = a.only x at in let (w, c2, s) = (is x z at at' r).only y c' in (w, to_flat g zs z w at' c2, s);
    all = λ w c. let (z, at, c') = of_flat g zs w c in all w z at c' (a.all z at);
  }
    where
      made : (w : Z') (y : Y) → Contains ys y → ((x : Y') × Contains (f y) x × S x w) ⊎ Out' w → ((x : Y') × Contains (flat_map f ys) x × S x w) ⊎ Out' w
      made w y at (inl (x, c, s)) = inl (x, to_flat f ys y x at c, s)
      made w y at (inr o) = inr o

      all : (w : Z') (z : Z) → Contains zs z → Contains (g z) w → ((y : Y) × Contains ys y × R y z) ⊎ Out z → ((x : Y') × Contains (flat_map f ys) x × S x w) ⊎ Out' w
      all w z at c (inl (y, at', r)) = made w y at' ((is y z at' at r).all w c)
      all w z at c (inr o) = inr (each_at Out' (g z) w (out z at o) c)

-- of the same list
pub covers_each : {X Y Z : Type 0} (R : Y → Z → Type 0) (Out : Z → Type 0) (f : X → List Y) (g : X → List Z) (xs : List X) → ((x : X) → Contains xs x → Covers R Out (f x) (g x)) → Covers R Out (flat_map f xs) (flat_map g xs)
covers_each {X} R Out f g xs is =
    covers_flat (λ (x y : X). x ≡ y) (λ x. ⊥) R Out f g xs xs (λ x y at at' e. subst (λ z. Covers R Out (f x) (g z)) e (is x at)) (λ x at o. absurd o) (covers_self (λ (x y : X). x ≡ y) (λ x. ⊥) (λ x. refl) xs)

-- one of each of two lists
pub covers_pairs : {X Y Z X' Y' Z' : Type 0} (R : X → X' → Type 0) (Out : X' → Type 0) (S : Y → Y' → Type 0) (Out' : Y' → Type 0) (Q : Z → Z' → Type 0) (Never : Z' → Type 0) (f : X → Y → Z) (g : X' → Y' → Z')
    → ((x : X) (x' : X') (y : Y) (y' : Y') → R x x' → S y y' → Q (f x y) (g x' y')) → ((x : X') (y : Y') → Out x → Never (g x y)) → ((x : X') (y : Y') → Out' y → Never (g x y))
    → (xs : List X) (xs' : List X') (ys : List Y) (ys' : List Y') → Covers R Out xs xs' → Covers S Out' ys ys' → Covers Q Never (pairs f xs ys) (pairs g xs' ys')
covers_pairs {X} {Y} {Z} {X'} {Y'} {Z'} R Out S Out' Q Never f g is left right xs xs' ys ys' a b =
    covers_flat R Out Q Never (λ x. map (f x) ys) (λ x. map (g x) ys') xs xs'
    (λ x x' at at' r. covers_map S Out' Q Never (f x) (g x') (λ y y' s. is x x' y y' r s) (λ y o. right x' y o) ys ys' b)
    (λ x at o. each_to_map Never (g x) ys' (each_all (λ y. Never (g x y)) ys' (λ y c. left x y o))) a

-- what holds isn't left out
pub held : {L P : Type 0} (D : L → Type 0) (guard : L → Bool) (l : L) → D l → guard l ≡ true → P ⊎ Never D guard → P
held D guard l d holds (inl x) = x
held D guard l d holds (inr never) = let e : true ≡ false = sym holds ∙ never l d in cc

-- ---- lists as loops make them, from the left

pub map_last : {X Y : Type 0} (f : X → Y) (xs : List X) (x : X) → map f (xs ++ x ∷ []) ≡ map f xs ++ f x ∷ []
map_last f [] x = refl
map_last f (y ∷ xs) x = ap (λ zs. f y ∷ zs) (map_last f xs x)

pub flat_last : {X Y : Type 0} (f : X → List Y) (xs : List X) (x : X) → flat_map f (xs ++ x ∷ []) ≡ flat_map f xs ++ f x
flat_last f [] x = append-nil (f x)
flat_last f (y ∷ xs) x = ap (λ zs. f y ++ zs) (flat_last f xs x) ∙ sym (append_assoc (f y) (flat_map f xs) (f x))

pub pairs_last : {X Y Z : Type 0} (f : X → Y → Z) (xs : List X) (x : X) (ys : List Y) → pairs f (xs ++ x ∷ []) ys ≡ pairs f xs ys ++ map (f x) ys
pairs_last f xs x ys = flat_last (λ x. map (f x) ys) xs x
