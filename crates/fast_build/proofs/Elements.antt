-- An element of a list and of what a list is mapped to.
use Rattle.std.proofs.Common.{◌≡◌, ℕ, zero, suc, ◌<◌, Bool, true, false, ◌&&◌, List, [], ◌∷◌, map, length, get_or, refl, sym, ap, subst, ◌∙◌, ◌++◌, arith}
use Rattle.std.specs.Prelude.{Contains, All}
use Rattle.std.specs.List.{list_all}
use Rattle.std.proofs.lemmas.List.{get_or-map, length-map, length-append, get_or_append_left}
use Rattle.std.proofs.lemmas.List.Elements.{All-tail}

-- the element at a place is mapped to the element at that place
pub mapped_at : {A B : Type 0} (f : A → B) (xs : List A) (i : ℕ) (x : A) (d : B) → x ≡ get_or xs i x → i < length xs → get_or (map f xs) i d ≡ f x
mapped_at f xs i x d e h = get_or-map f xs i x d h ∙ ap f (sym e)

pub mapped_below : {A B : Type 0} (f : A → B) (xs : List A) (i : ℕ) → i < length xs → i < length (map f xs)
mapped_below f xs i h = rw length-map h

pub mapped_contains : {A B : Type 0} (f : A → B) (xs : List A) (i : ℕ) (x : A) → x ≡ get_or xs i x → i < length xs → Contains (map f xs) (f x)
mapped_contains f xs i x e h = (i, mapped_below f xs i h, mapped_at f xs i x (f x) e h)

pub first_true : (a b : Bool) → (a && b) ≡ true → a ≡ true
first_true true b e = refl
first_true false b e = e

pub second_true : (a b : Bool) → (a && b) ≡ true → b ≡ true
second_true true b e = e
second_true false b e = absurd (cc)

-- what is true of each is true of one
pub all_contained : {A : Type 0} (p : A → Bool) (xs : List A) (i : ℕ) (x : A) → list_all p xs ≡ true → x ≡ get_or xs i x → i < length xs → p x ≡ true
all_contained p [] i x all e h = absurd (omega arith)
all_contained p (y ∷ ys) zero x all e h = ap p e ∙ first_true (p y) (list_all p ys) all
all_contained p (y ∷ ys) (suc i) x all e h = all_contained p ys i x (second_true (p y) (list_all p ys) all) e (omega arith)

pub all_mapped : {A B : Type 0} (p : B → Bool) (f : A → B) (xs : List A) (i : ℕ) (x : A) → list_all p (map f xs) ≡ true → x ≡ get_or xs i x → i < length xs → p (f x) ≡ true
all_mapped p f xs i x all e h = all_contained p (map f xs) i (f x) all (sym (mapped_at f xs i x (f x) e h)) (mapped_below f xs i h)

-- what holds of each of a list holds of each of its parts
pub all_left : {A : Type 0} (P : A → Type 0) (xs ys : List A) → All P (xs ++ ys) → All P xs
all_left P xs ys all k d low = subst P (get_or_append_left xs ys d k low) (all k d (omega (arith, low, length-append xs ys)))

pub all_right : {A : Type 0} (P : A → Type 0) (xs ys : List A) → All P (xs ++ ys) → All P ys
all_right P [] ys all = all
all_right P (x ∷ xs) ys all = all_right P xs ys (All-tail P x (xs ++ ys) all)

pub all_here : {A : Type 0} (P : A → Type 0) (xs : List A) (i : ℕ) (x : A) → All P xs → x ≡ get_or xs i x → i < length xs → P x
all_here P xs i x all is low = subst P (sym is) (all i x low)
