-- Numbers of names.
use Rattle.std.proofs.Common.{◌≡◌, ℕ, zero, suc, ◌+◌, ◌<◌, ◌==◌, Bool, true, false, cond, List, [], ◌∷◌, Option, Some, None, map, length, get_or, Contains, refl, sym, ap, ◌∙◌, arith}
use Rattle.std.specs.Prelude.{not, find, nat_lt, position, is_some, ◌≢◌}
use Rattle.std.specs.List.{list_any, position_or_len, AllPairs}
use Rattle.std.proofs.lemmas.Slice.Eq.{bytes_eq-Decides}
use Rattle.std.proofs.lemmas.Bool.Decides.{nat_tests}
use Rattle.std.proofs.lemmas.List.{get_or-map, length-map}
use Rattle.model_tree.specs.Signature.{PlainConstructor, PlainSignature, names_of}
use Rattle.model_names.specs.Declared.{same_text}
use Rattle.fast_tree.specs.declared.signature.CtorOf as code
use Rattle.fast_tree.specs.Signatures.{plain_constructor}
use Rattle.std.proofs.lemmas.List.Folds.{list_any_at}
use Rattle.model_checks.proofs.Soundness.{same_itself, found_passes}
use Rattle.fast_build.specs.Numbers.{find_constructor, ctor_at, IsNumbered, number_in}
use Rattle.fast_build.proofs.Stands.{are_apart}
use Rattle.fast_build.proofs.Elements.{first_true, second_true}

pub same_from_test : (x y : List ℕ) → same_text x y ≡ true → x ≡ y
same_from_test x y e = (bytes_eq-Decides x y).0 e

pub apart_from_test : (x y : List ℕ) → same_text x y ≡ false → x ≡ y → ⊥
apart_from_test x y e same = let no : true ≡ false = sym (same_itself y) ∙ ap (λ z. same_text z y) (sym same) ∙ e in absurd (cc)

pub one_more : (n : ℕ) → 1 + n ≡ suc n
one_more n = omega arith

-- a language that is among the names is the one of its number
number_at : (names : List (List ℕ)) (name : List ℕ) → Contains names name → (number_in names name < length names) × (get_or names (number_in names name) [] ≡ name)
number_at [] name (k, low, is) = absurd (omega (arith, low))
number_at (n ∷ ns) name at = by (same_text name n) refl at (number_at ns name)
  where
    by : (b : Bool) → same_text name n ≡ b → Contains (n ∷ ns) name → (Contains ns name → (number_in ns name < length ns) × (get_or ns (number_in ns name) [] ≡ name))
        → (cond (not b) (1 + number_in ns name) 0 < suc (length ns)) × (get_or (n ∷ ns) (cond (not b) (1 + number_in ns name) 0) [] ≡ name)
    by true e at later = (omega arith, sym (same_from_test name n e))
    by false e (zero, low, is) later = absurd (apart_from_test name n e (sym is))
    by false e (suc k, low, is) later = let rest = later (k, omega (arith, low), is) in (omega (arith, rest.0), ap (λ m. get_or (n ∷ ns) m []) (one_more (number_in ns name)) ∙ rest.1)

pub numbered_below : (names : List (List ℕ)) (name : List ℕ) → Contains names name → number_in names name < length names
numbered_below names name at = (number_at names name at).0

pub named_by_number : (names : List (List ℕ)) (name : List ℕ) → Contains names name → get_or names (number_in names name) [] ≡ name
named_by_number names name at = (number_at names name at).1

-- where no name stands twice, the number of the name at a place is the place
pub number_at_place : (names : List (List ℕ)) (k : ℕ) → k < length names → AllPairs (λ one other. one ≢ other) names → number_in names (get_or names k []) ≡ k
number_at_place [] k low pairs = absurd (omega (arith, low))
number_at_place (n ∷ ns) zero low pairs = ap (λ b. cond (not b) (1 + number_in ns n) 0) (same_itself n)
number_at_place (n ∷ ns) (suc k) low pairs =
    by (same_text (get_or ns k []) n) refl (number_at_place ns k (omega (arith, low)) (λ i j d before below. pairs (suc i) (suc j) d (omega (arith, before)) (omega (arith, below))))
  where
    by : (b : Bool) → same_text (get_or ns k []) n ≡ b → number_in ns (get_or ns k []) ≡ k → cond (not b) (1 + number_in ns (get_or ns k [])) 0 ≡ suc k
    by true same later = absurd (pairs 0 (suc k) [] (omega arith) (omega (arith, low)) (sym (same_from_test (get_or ns k []) n same)))
    by false other later = ap (λ m. 1 + m) later ∙ one_more k

-- the first place at which a test passes is that of what is found
place_map : {A B : Type 0} (p : B → Bool) (f : A → B) (xs : List A) → position_or_len (λ x. p (f x)) xs ≡ position_or_len p (map f xs)
place_map p f [] = refl
place_map p f (x ∷ xs) = ap (λ n. cond (not (p (f x))) (1 + n) 0) (place_map p f xs)

find_at : {A : Type 0} (p : A → Bool) (xs : List A) (d : A) → position_or_len p xs < length xs → find p xs ≡ Some (get_or xs (position_or_len p xs) d)
find_at p [] d low = absurd (omega (arith, low))
find_at p (x ∷ xs) d low = by (p x) low (find_at p xs d)
  where
    by : (b : Bool) → cond (not b) (1 + position_or_len p xs) 0 < suc (length xs) → (position_or_len p xs < length xs → find p xs ≡ Some (get_or xs (position_or_len p xs) d))
        → cond b (Some x) (find p xs) ≡ Some (get_or (x ∷ xs) (cond (not b) (1 + position_or_len p xs) 0) d)
    by true low later = refl
    by false low later = later (omega (arith, low)) ∙ ap (λ n. Some (get_or (x ∷ xs) n d)) (sym (one_more (position_or_len p xs)))

find_nowhere : {A : Type 0} (p : A → Bool) (xs : List A) → (position_or_len p xs < length xs → ⊥) → find p xs ≡ None
find_nowhere p [] none = refl
find_nowhere p (x ∷ xs) none = by (p x) none (find_nowhere p xs)
  where
    by : (b : Bool) → (cond (not b) (1 + position_or_len p xs) 0 < suc (length xs) → ⊥) → ((position_or_len p xs < length xs → ⊥) → find p xs ≡ None) → cond b (Some x) (find p xs) ≡ None
    by true none later = absurd (none (omega arith))
    by false none later = later (λ low. none (omega (arith, low)))

placed : (n m k : ℕ) (b : Bool) → nat_lt n m ≡ b → cond b (Some n) None ≡ Some k → (n < m) × (n ≡ k)
placed n m k true low e = (grind (arith, nat_tests), cc)
placed n m k false low e = absurd (cc)

pub nowhere : (n m : ℕ) (b : Bool) → nat_lt n m ≡ b → cond b (Some n) None ≡ None → n < m → ⊥
nowhere n m true low e = absurd (cc)
nowhere n m false low e = λ less. grind (arith, nat_tests)

-- the place of a declared thing among what is declared is that among the plain forms
pub mapped_place : {A B : Type 0} (p : B → Bool) (f : A → B) (xs : List A) (k : ℕ) → position (λ x. p (f x)) xs ≡ Some k → (position_or_len p (map f xs) < length (map f xs)) × (position_or_len p (map f xs) ≡ k)
mapped_place p f xs k e =
    let found = placed (position_or_len (λ x. p (f x)) xs) (length xs) k (nat_lt (position_or_len (λ x. p (f x)) xs) (length xs)) refl e in
    (rw (length-map, ← place_map p f xs) found.0, sym (place_map p f xs) ∙ found.1)

pub mapped_nowhere : {A B : Type 0} (p : B → Bool) (f : A → B) (xs : List A) → position (λ x. p (f x)) xs ≡ None → position_or_len p (map f xs) < length (map f xs) → ⊥
mapped_nowhere p f xs e low = nowhere (position_or_len (λ x. p (f x)) xs) (length xs) (nat_lt (position_or_len (λ x. p (f x)) xs) (length xs)) refl e (rw (← place_map p f xs, length-map) at low)

pub ctor_numbered : (ctors : List code.CtorOf) (name : List ℕ) (k n : ℕ) → position (λ c. same_text c.name name) ctors ≡ Some k → n ≡ k → IsNumbered (map plain_constructor ctors) name n
ctor_numbered ctors name k n e f =
    let found = mapped_place (λ c. same_text c.name name) plain_constructor ctors k e in
    record {
      below = rw (f, ← found.1) found.0;
      found = rw (f, ← found.1) (find_at (λ c. same_text c.name name) (map plain_constructor ctors) _ found.0);
    }

pub ctor_unknown : (ctors : List code.CtorOf) (name : List ℕ) → position (λ c. same_text c.name name) ctors ≡ None → is_some (find_constructor (map plain_constructor ctors) name) ≡ true → ⊥
ctor_unknown ctors name e there =
    let no : false ≡ true = sym (ap is_some (find_nowhere (λ c. same_text c.name name) (map plain_constructor ctors) (mapped_nowhere (λ c. same_text c.name name) plain_constructor ctors e))) ∙ there in absurd (cc)

-- names that are apart are told apart by their numbers
none_passes : {A : Type 0} (p : A → Bool) (xs : List A) (i : ℕ) (d : A) → i < length xs → not (list_any p xs) ≡ true → p (get_or xs i d) ≡ false
none_passes p xs i d low none = by (p (get_or xs i d)) refl
  where
    by : (b : Bool) → p (get_or xs i d) ≡ b → b ≡ false
    by true e = let no : false ≡ true = ap not (sym (list_any_at p xs i d low e)) ∙ none in absurd (cc)
    by false e = refl

other_name : (x : List ℕ) (xs : List (List ℕ)) (i : ℕ) → i < length xs → not (list_any (same_text x) xs) ≡ true → same_text x (get_or xs i []) ≡ false
other_name x xs i low none = none_passes (same_text x) xs i [] low none

symmetric : (x y : List ℕ) (b : Bool) → same_text x y ≡ b → same_text y x ≡ b
symmetric x y true e = ap (λ z. same_text y z) (same_from_test x y e) ∙ same_itself y
symmetric x y false e = by (same_text y x) refl
  where
    by : (b : Bool) → same_text y x ≡ b → b ≡ false
    by true f = absurd (apart_from_test x y e (sym (same_from_test y x f)))
    by false f = refl

zero_first : (n : ℕ) → (0 == suc n) ≡ false
zero_first n = grind (arith, nat_tests)

zero_second : (n : ℕ) → (suc n == 0) ≡ false
zero_second n = grind (arith, nat_tests)

both_more : (n c : ℕ) → (suc n == suc c) ≡ (n == c)
both_more n c = by (n == c) refl
  where
    by : (b : Bool) → (n == c) ≡ b → (suc n == suc c) ≡ b
    by true e = let same : n ≡ c = grind (arith, nat_tests) in grind (arith, nat_tests)
    by false e = grind (arith, nat_tests)

told_apart : (names : List (List ℕ)) (n c : ℕ) → n < length names → c < length names → are_apart names ≡ true → same_text (get_or names c []) (get_or names n []) ≡ (n == c)
told_apart [] n c low high apart = absurd (omega (arith, low))
told_apart (x ∷ xs) zero zero low high apart = same_itself x
told_apart (x ∷ xs) zero (suc c) low high apart = symmetric x (get_or xs c []) false (other_name x xs c (omega (arith, high)) (first_true (not (list_any (same_text x) xs)) (are_apart xs) apart)) ∙ sym (zero_first c)
told_apart (x ∷ xs) (suc n) zero low high apart = other_name x xs n (omega (arith, low)) (first_true (not (list_any (same_text x) xs)) (are_apart xs) apart) ∙ sym (zero_second n)
told_apart (x ∷ xs) (suc n) (suc c) low high apart = told_apart xs n c (omega (arith, low)) (omega (arith, high)) (second_true (not (list_any (same_text x) xs)) (are_apart xs) apart) ∙ sym (both_more n c)

-- the name of the constructor of a number
pub ctor_name : (t : PlainSignature) (c : ℕ) → c < length t.constructors → get_or (names_of t) c [] ≡ (ctor_at t.constructors c).name
ctor_name t c low = get_or-map (λ (x : PlainConstructor). x.name) t.constructors c _ [] low

passes_by : {A : Type 0} (p : A → Bool) (y x : A) (later : Option A) (b : Bool) → p y ≡ b → (later ≡ Some x → p x ≡ true) → cond b (Some y) later ≡ Some x → p x ≡ true
passes_by p y x later true t rest e = let same : y ≡ x = cc in ap p (sym same) ∙ t
passes_by p y x later false t rest e = rest e

-- a tree has the constructor of a name where it has that constructor's number
pub number_named : (t : PlainSignature) (name : List ℕ) (n c : ℕ) → are_apart (names_of t) ≡ true → IsNumbered t.constructors name n → c < length t.constructors → same_text (get_or (names_of t) c []) name ≡ (n == c)
number_named t name n c apart at low =
    let is : name ≡ get_or (names_of t) n [] = sym (same_from_test (ctor_at t.constructors n).name name (found_passes (λ x. same_text x.name name) t.constructors (ctor_at t.constructors n) at.found)) ∙ sym (ctor_name t n at.below) in
    ap (same_text (get_or (names_of t) c [])) is ∙ told_apart (names_of t) n c (rw length-map at.below) (rw length-map low) apart
