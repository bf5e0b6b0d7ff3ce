-- What holds of each element, and of one.
use Rattle.std.proofs.Common.{ℕ, get_or, zero, suc, List, [], ◌∷◌, ◌++◌, map, Contains, subst, arith}
use Rattle.model_sta.specs.Sets.{Each}
use Rattle.sttr_theory.proofs.Members.{here, there}

pub each_both : {X : Type 0} (P : X → Type 0) (xs ys : List X) → Each P xs → Each P ys → Each P (xs ++ ys)
each_both P [] ys a b = b
each_both P (x ∷ xs) ys a b = (a.0, each_both P xs ys a.1 b)

pub each_split : {X : Type 0} (P : X → Type 0) (xs ys : List X) → Each P (xs ++ ys) → Each P xs × Each P ys
each_split P [] ys a = (tt, a)
each_split P (x ∷ xs) ys a = let (b, c) = each_split P xs ys a.1 in ((a.0, b), c)

pub each_map : {X : Type 0} (P Q : X → Type 0) → ((x : X) → P x → Q x) → (xs : List X) → Each P xs → Each Q xs
each_map P Q f [] e = tt
each_map P Q f (x ∷ xs) e = (f x e.0, each_map P Q f xs e.1)

pub each_map2 : {X : Type 0} (P Q R : X → Type 0) → ((x : X) → P x → Q x → R x) → (xs : List X) → Each P xs → Each Q xs → Each R xs
each_map2 P Q R f [] a b = tt
each_map2 P Q R f (x ∷ xs) a b = (f x a.0 b.0, each_map2 P Q R f xs a.1 b.1)

pub each_of_map : {X Y : Type 0} (P : Y → Type 0) (f : X → Y) (xs : List X) → Each P (map f xs) → Each (λ x. P (f x)) xs
each_of_map P f [] e = tt
each_of_map P f (x ∷ xs) e = (e.0, each_of_map P f xs e.1)

pub each_to_map : {X Y : Type 0} (P : Y → Type 0) (f : X → Y) (xs : List X) → Each (λ x. P (f x)) xs → Each P (map f xs)
each_to_map P f [] e = tt
each_to_map P f (x ∷ xs) e = (e.0, each_to_map P f xs e.1)

pub each_at : {X : Type 0} (P : X → Type 0) (xs : List X) (x : X) → Each P xs → Contains xs x → P x
each_at P [] x e c = absurd (omega arith)
each_at P (y ∷ xs) x e (zero, lt, eq) = subst P eq e.0
each_at P (y ∷ xs) x e (suc k, lt, eq) = each_at P xs x e.1 (k, omega arith, eq)

pub each_all : {X : Type 0} (P : X → Type 0) (xs : List X) → ((x : X) → Contains xs x → P x) → Each P xs
each_all P [] f = tt
each_all P (x ∷ xs) f = (f x (here x xs), each_all P xs (λ y c. f y (there x xs y c)))

-- a place of a list of lists, where what is beyond the end is empty
pub each_get : {X : Type 0} (P : X → Type 0) (xss : List (List X)) (j : ℕ) → Each (Each P) xss → Each P (get_or xss j [])
each_get P [] j e = tt
each_get P (xs ∷ xss) zero e = e.0
each_get P (xs ∷ xss) (suc j) e = each_get P xss j e.1

-- what holds at each place holds of each
pub each_place : {X : Type 0} (P : X → Type 0) (xss : List (List X)) → ((j : ℕ) → Each P (get_or xss j [])) → Each (Each P) xss
each_place P [] f = tt
each_place P (xs ∷ xss) f = (f 0, each_place P xss (λ j. f (suc j)))
