-- One element of a list with a property, as the list is made.
use Rattle.std.specs.List.{flat_map}
use Rattle.std.proofs.Common.{ℕ, zero, suc, ◌≡◌, ◌⊎◌, ◌↔◌, ◌&&◌, Bool, true, List, [], ◌∷◌, ◌++◌, map, get_or, Contains, refl, sym, subst, inl, inr, arith, append-nil}
use Rattle.std.proofs.lemmas.Bool.{and_parts, and_from}
use Rattle.model_sta.specs.Sets.{Each}
use Rattle.sttr_theory.specs.Lists.{pairs, merge, alone}
use Rattle.sttr_theory.proofs.Each.{each_both, each_split}

-- P holds of one of the elements
abbrev pub OneOf : {X : Type 0} → (X → Type 0) → List X → Type 0
OneOf P [] = ⊥
OneOf P (x ∷ xs) = P x ⊎ OneOf P xs

pub to_and_fro : (A B C : Type 0) → A ↔ B → B ↔ C → A ↔ C
to_and_fro A B C f g = (λ a. g.0 (f.0 a), λ c. f.1 (g.1 c))

pub and_iff : (a b : Bool) → ((a && b) ≡ true) ↔ ((a ≡ true) × (b ≡ true))
and_iff a b = (λ e. and_parts a b e, λ x. and_from a b x.0 x.1)

module _ {X : Type 0} (P : X → Type 0) where
  oneof_append : (xs ys : List X) → OneOf P (xs ++ ys) → OneOf P xs ⊎ OneOf P ys
  oneof_append [] ys o = inr o
  oneof_append (x ∷ xs) ys (inl a) = inl (inl a)
  oneof_append (x ∷ xs) ys (inr o) = later (oneof_append xs ys o)
    where
      later : OneOf P xs ⊎ OneOf P ys → OneOf P (x ∷ xs) ⊎ OneOf P ys
      later (inl a) = inl (inr a)
      later (inr b) = inr b

  oneof_left : (xs ys : List X) → OneOf P xs → OneOf P (xs ++ ys)
  oneof_left [] ys o = absurd o
  oneof_left (x ∷ xs) ys (inl a) = inl a
  oneof_left (x ∷ xs) ys (inr o) = inr (oneof_left xs ys o)

  oneof_right : (xs ys : List X) → OneOf P ys → OneOf P (xs ++ ys)
  oneof_right [] ys o = o
  oneof_right (x ∷ xs) ys o = inr (oneof_right xs ys o)

  -- the element itself
  pub member : (xs : List X) → OneOf P xs → (x : X) × Contains xs x × P x
  member [] o = absurd o
  member (x ∷ xs) (inl a) = (x, (0, omega arith, refl), a)
  member (x ∷ xs) (inr o) = let (y, (k, lt, e), q) = member xs o in (y, (suc k, omega arith, e), q)

  pub of_member : (xs : List X) (x : X) → Contains xs x → P x → OneOf P xs
  of_member [] x c q = absurd (omega arith)
  of_member (y ∷ xs) x (zero, lt, e) q = inl (subst P (sym e) q)
  of_member (y ∷ xs) x (suc k, lt, e) q = inr (of_member xs x (k, omega arith, e) q)

module _ {X : Type 0} (P Q : X → Type 0) where
  pub oneof_map : ((x : X) → P x → Q x) → (xs : List X) → OneOf P xs → OneOf Q xs
  oneof_map f [] o = o
  oneof_map f (x ∷ xs) (inl a) = inl (f x a)
  oneof_map f (x ∷ xs) (inr o) = inr (oneof_map f xs o)

pub oneof_iff : {X : Type 0} (P Q : X → Type 0) → ((x : X) → P x ↔ Q x) → (xs : List X) → OneOf P xs ↔ OneOf Q xs
oneof_iff P Q f xs = (λ o. oneof_map P Q (λ x. (f x).0) xs o, λ o. oneof_map Q P (λ x. (f x).1) xs o)

module _ {X Y : Type 0} (P : Y → Type 0) (Q : X → Type 0) where
  flat_out : (f : X → List Y) → ((x : X) → OneOf P (f x) → Q x) → (xs : List X) → OneOf P (flat_map f xs) → OneOf Q xs
  flat_out f g [] o = o
  flat_out f g (x ∷ xs) o = either (g x) (flat_out f g xs) (oneof_append P (f x) (flat_map f xs) o)
    where
      either : {A B C D : Type 0} → (A → C) → (B → D) → A ⊎ B → C ⊎ D
      either f g (inl a) = inl (f a)
      either f g (inr b) = inr (g b)

  flat_in : (f : X → List Y) → ((x : X) → Q x → OneOf P (f x)) → (xs : List X) → OneOf Q xs → OneOf P (flat_map f xs)
  flat_in f g [] o = o
  flat_in f g (x ∷ xs) (inl a) = oneof_left P (f x) (flat_map f xs) (g x a)
  flat_in f g (x ∷ xs) (inr o) = oneof_right P (f x) (flat_map f xs) (flat_in f g xs o)

  pub flat_iff : (f : X → List Y) → ((x : X) → OneOf P (f x) ↔ Q x) → (xs : List X) → OneOf P (flat_map f xs) ↔ OneOf Q xs
  flat_iff f g xs = (flat_out f (λ x. (g x).0) xs, flat_in f (λ x. (g x).1) xs)

  map_out : (f : X → Y) → ((x : X) → P (f x) → Q x) → (xs : List X) → OneOf P (map f xs) → OneOf Q xs
  map_out f g [] o = o
  map_out f g (x ∷ xs) (inl a) = inl (g x a)
  map_out f g (x ∷ xs) (inr o) = inr (map_out f g xs o)

  map_in : (f : X → Y) → ((x : X) → Q x → P (f x)) → (xs : List X) → OneOf Q xs → OneOf P (map f xs)
  map_in f g [] o = o
  map_in f g (x ∷ xs) (inl a) = inl (g x a)
  map_in f g (x ∷ xs) (inr o) = inr (map_in f g xs o)

  pub map_iff : (f : X → Y) → ((x : X) → P (f x) ↔ Q x) → (xs : List X) → OneOf P (map f xs) ↔ OneOf Q xs
  map_iff f g xs = (map_out f (λ x. (g x).0) xs, map_in f (λ x. (g x).1) xs)

-- what doesn't depend on the element
pub fixed_iff : {X : Type 0} (A : Type 0) (Q : X → Type 0) (xs : List X) → OneOf (λ x. A × Q x) xs ↔ (A × OneOf Q xs)
fixed_iff A Q xs = (
  λ o. let (x, here, (a, q)) = member (λ x. A × Q x) xs o in (a, of_member Q xs x here q),
  λ p. oneof_map Q (λ x. A × Q x) (λ x q. (p.0, q)) xs p.1,
)

module _ {X Y Z : Type 0} (P : X → Type 0) (Q : Y → Type 0) (R : Z → Type 0) where
  -- one of each of two lists
  pub pairs_iff : (f : X → Y → Z) → ((x : X) (y : Y) → R (f x y) ↔ (P x × Q y)) → (xs : List X) (ys : List Y) → OneOf R (pairs f xs ys) ↔ (OneOf P xs × OneOf Q ys)
  pairs_iff f g xs ys =
      to_and_fro (OneOf R (pairs f xs ys)) (OneOf (λ x. OneOf Q ys × P x) xs) (OneOf P xs × OneOf Q ys)
      (flat_iff R (λ x. OneOf Q ys × P x) (λ x. map (f x) ys) (λ x. row x) xs)
      (λ o. let (q, p) = (fixed_iff (OneOf Q ys) P xs).0 o in (p, q), λ a. (fixed_iff (OneOf Q ys) P xs).1 (a.1, a.0))
    where
      row : (x : X) → OneOf R (map (f x) ys) ↔ (OneOf Q ys × P x)
      row x =
          to_and_fro (OneOf R (map (f x) ys)) (OneOf (λ y. P x × Q y) ys) (OneOf Q ys × P x)
          (map_iff R (λ y. P x × Q y) (f x) (λ y. g x y) ys)
          (λ o. let (p, q) = (fixed_iff (P x) Q ys).0 o in (q, p), λ a. (fixed_iff (P x) Q ys).1 (a.1, a.0))

-- ---- lists by place

pub merge_at : {X : Type 0} (xs ys : List (List X)) (j : ℕ) → get_or (merge xs ys) j [] ≡ get_or xs j [] ++ get_or ys j []
merge_at [] ys j = refl
merge_at (x ∷ xs) [] j = sym (append-nil (get_or (x ∷ xs) j []))
merge_at (x ∷ xs) (y ∷ ys) zero = refl
merge_at (x ∷ xs) (y ∷ ys) (suc j) = merge_at xs ys j

-- what holds of each at each place
abbrev pub EachAt : {X : Type 0} → (ℕ → X → Type 0) → List (List X) → Type 0
EachAt P xss = (j : ℕ) → Each (P j) (get_or xss j [])

pub merge_iff : {X : Type 0} (P : ℕ → X → Type 0) (xs ys : List (List X)) → EachAt P (merge xs ys) ↔ (EachAt P xs × EachAt P ys)
merge_iff P xs ys = (
  λ a. (λ j. (parts a j).0, λ j. (parts a j).1),
  λ b j. subst (Each (P j)) (sym (merge_at xs ys j)) (each_both (P j) (get_or xs j []) (get_or ys j []) (b.0 j) (b.1 j)),
)
  where
    parts : EachAt P (merge xs ys) → (j : ℕ) → Each (P j) (get_or xs j []) × Each (P j) (get_or ys j [])
    parts a j = each_split (P j) (get_or xs j []) (get_or ys j []) (subst (Each (P j)) (merge_at xs ys j) (a j))

pub alone_out : {X : Type 0} (P : ℕ → X → Type 0) (j : ℕ) (x : X) → EachAt P (alone j x) → P j x
alone_out P zero x a = (a 0).0
alone_out P (suc j) x a = alone_out (λ k. P (suc k)) j x (λ k. a (suc k))

pub alone_in : {X : Type 0} (P : ℕ → X → Type 0) (j : ℕ) (x : X) → P j x → EachAt P (alone j x)
alone_in P zero x p zero = (p, tt)
alone_in P zero x p (suc i) = tt
alone_in P (suc j) x p zero = tt
alone_in P (suc j) x p (suc i) = alone_in (λ k. P (suc k)) j x p i
