-- What is found by its number is what is found by its name.
use Rattle.std.proofs.Common.{◌≡◌, ℕ, zero, suc, take, arith, Bool, true, false, cond, ◌<◌, ◌≤◌, List, [], ◌∷◌, ◌++◌, map, length, get_or, Option, Some, None, refl, sym, ap, ◌∙◌}
use Rattle.std.proofs.lemmas.Option.{slice_get-map, slice_get_read, slice_get_past}
use Rattle.std.specs.Prelude.{find, slice_get, is_some, nat_lt}
use Rattle.std.proofs.lemmas.Bool.Decides.{nat_tests}
use Rattle.std.specs.Option.{option_map, option_and_then}
use Rattle.std.specs.List.{ItemBy}
use Rattle.model_grammar.specs.Syntax.{Body, sorts, tree, lang, trans, def, assertion, Item}
use Rattle.model_names.specs.Declared.{same_text, types_of, own_types, find_type, find_item, declares}
use Rattle.model_meaning.specs.Types.{signature_of}
use Rattle.program_check.specs.Signed.{own_signature, signature_in}
use Rattle.program_check.specs.Numbered.{place_by, is_below, own_type_item, declares_type, type_there, own_ctors, ctor_place}

pub at_next : {A : Type 0} (x : A) (xs : List A) (o : Option ℕ) → option_and_then (slice_get (x ∷ xs)) (option_map (λ n. suc n) o) ≡ option_and_then (slice_get xs) o
at_next x xs None = refl
at_next x xs (Some n) = refl

pub item_by_number : (name : List ℕ) (items : List Item) → option_and_then (slice_get items) (place_by (declares name) items) ≡ find_item items name
item_by_number name [] = refl
item_by_number name (x ∷ xs) = by (declares name x) (at_next x xs (place_by (declares name) xs) ∙ item_by_number name xs)
  where
    by : (b : Bool) → option_and_then (slice_get (x ∷ xs)) (option_map (λ n. suc n) (place_by (declares name) xs)) ≡ find_item xs name
        → option_and_then (slice_get (x ∷ xs)) (cond b (Some 0) (option_map (λ n. suc n) (place_by (declares name) xs))) ≡ cond b (Some x) (find_item xs name)
    by true later = refl
    by false later = later

pub step_over : (x : Item) (xs : List Item) (o : Option ℕ) → type_there (x ∷ xs) (option_map (λ n. suc n) o) ≡ type_there xs o
step_over x xs o = ap (option_and_then (λ item. own_type_item item.body)) (at_next x xs o)

type_of_body : (name : List ℕ) (x : Item) (xs : List Item) (body : Body) → x.body ≡ body → type_there xs (place_by (declares_type name) xs) ≡ find_type xs name
    → type_there (x ∷ xs) (cond (declares_type name (record { place = x.place; body = body })) (Some 0) (option_map (λ n. suc n) (place_by (declares_type name) xs))) ≡ find (λ t. same_text t.name.text name) (own_types body ++ types_of xs)
type_of_body name x xs (sorts t) is later = by (same_text t.name.text name) (step_over x xs (place_by (declares_type name) xs) ∙ later)
  where
    by : (b : Bool) → type_there (x ∷ xs) (option_map (λ n. suc n) (place_by (declares_type name) xs)) ≡ find_type xs name
        → type_there (x ∷ xs) (cond b (Some 0) (option_map (λ n. suc n) (place_by (declares_type name) xs))) ≡ cond b (Some t) (find_type xs name)
    by true later = ap own_type_item is
    by false later = later
type_of_body name x xs (tree t) is later = step_over x xs (place_by (declares_type name) xs) ∙ later
type_of_body name x xs (lang t) is later = step_over x xs (place_by (declares_type name) xs) ∙ later
type_of_body name x xs (trans t) is later = step_over x xs (place_by (declares_type name) xs) ∙ later
type_of_body name x xs (def t) is later = step_over x xs (place_by (declares_type name) xs) ∙ later
type_of_body name x xs (assertion t) is later = step_over x xs (place_by (declares_type name) xs) ∙ later

pub type_by_number : (name : List ℕ) (items : List Item) → type_there items (place_by (declares_type name) items) ≡ find_type items name
type_by_number name [] = refl
type_by_number name (x ∷ xs) = type_of_body name x xs x.body refl (type_by_number name xs)

pub there_by : {A B : Type 0} (f : A → B) (xs : List A) (i : ℕ) (x : A) → i < length xs → x ≡ get_or xs i x → Some (f x) ≡ slice_get (map f xs) i
there_by f xs i x low is = sym (slice_get-map f xs i ∙ ap (option_map f) (slice_get_read xs (length xs) i x refl low is))

pub past_by : {A B : Type 0} (f : A → B) (xs : List A) (i : ℕ) → length xs ≤ i → None ≡ slice_get (map f xs) i
past_by f xs i end = sym (slice_get-map f xs i ∙ ap (option_map f) (slice_get_past xs i end))

-- what std's `get` lends of a slice
pub got : {R A B : Type 0} (now : R → A) (f : A → B) (xs : List A) (i : ℕ) (r : Option R) → ItemBy now xs i i r → option_map (λ x. f (now x)) r ≡ slice_get (map f xs) i
got now f xs i None is = past_by f xs i is.3
got now f xs i (Some x) is = there_by f xs i (now x) is.3.0 is.1

-- what is found by the number of a name
pub item_found : (name : List ℕ) (items : List Item) (place : Option ℕ) (n : ℕ) (found : Option Item) → place ≡ place_by (declares name) items → place ≡ Some n → found ≡ slice_get items n → found ≡ find_item items name
item_found name items place n found is some at = at ∙ ap (option_and_then (slice_get items)) (sym some ∙ is) ∙ item_by_number name items

pub item_missing : (name : List ℕ) (items : List Item) (place : Option ℕ) → place ≡ place_by (declares name) items → place ≡ None → None ≡ find_item items name
item_missing name items place is none = ap (option_and_then (slice_get items)) (sym none ∙ is) ∙ item_by_number name items

pub type_missing : (name : List ℕ) (items : List Item) (place : Option ℕ) → place ≡ place_by (declares_type name) items → place ≡ None → None ≡ find_type items name
type_missing name items place is none = ap (type_there items) (sym none ∙ is) ∙ type_by_number name items

-- the constructors of an item are at its number
pub ctors_found : {A : Type 0} (f : A → List ℕ → Option ℕ) (names : A) (all : List A) (items : List Item) (n : ℕ) (item : Item) → map f all ≡ map (λ item. ctor_place (own_ctors item)) items
    → Some (f names) ≡ slice_get (map f all) n → Some item ≡ slice_get items n → f names ≡ ctor_place (own_ctors item)
ctors_found f names all items n item are at there i name =
    option_and_then_at ((at ∙ ap (λ xs. slice_get xs n) are ∙ slice_get-map (λ item. ctor_place (own_ctors item)) items n ∙ ap (option_map (λ item. ctor_place (own_ctors item))) (sym there)) i)
  where
    option_and_then_at : Option (List ℕ → Option ℕ) → Option ℕ
    option_and_then_at = option_and_then (λ g. g name)

pub ctors_missing : {A : Type 0} (f : A → List ℕ → Option ℕ) (all : List A) (items : List Item) (n : ℕ) → map f all ≡ map (λ item. ctor_place (own_ctors item)) items → None ≡ slice_get (map f all) n → None ≡ type_there items (Some n)
ctors_missing f all items n are at = by (slice_get items n) (at ∙ ap (λ xs. slice_get xs n) are ∙ slice_get-map (λ item. ctor_place (own_ctors item)) items n)
  where
    by : (o : Option Item) → None ≡ option_map (λ item. ctor_place (own_ctors item)) o → None ≡ option_and_then (λ item. own_type_item item.body) o
    by None e = refl
    by (Some item) e = ap (option_and_then (λ _. own_type_item item.body)) e

nowhere_below : (o : Option ℕ) → is_below o 0 ≡ false
nowhere_below None = refl
nowhere_below (Some k) = grind (arith, nat_tests)

zero_below : (n : ℕ) → nat_lt 0 (suc n) ≡ true
zero_below n = grind (arith, nat_tests)

below_suc : (k n : ℕ) → nat_lt (suc k) (suc n) ≡ nat_lt k n
below_suc k n = by (nat_lt k n) refl
  where
    by : (b : Bool) → nat_lt k n ≡ b → nat_lt (suc k) (suc n) ≡ b
    by true e = grind (arith, nat_tests)
    by false e = grind (arith, nat_tests)

below_next : (o : Option ℕ) (n : ℕ) → is_below (option_map (λ k. suc k) o) (suc n) ≡ is_below o n
below_next None n = refl
below_next (Some k) n = below_suc k n

-- what is found among the first
pub item_before : (name : List ℕ) (items : List Item) (n : ℕ) → is_below (place_by (declares name) items) n ≡ is_some (find_item (take n items) name)
item_before name [] n = none_below n
  where
    none_below : (n : ℕ) → false ≡ is_some (find_item (take n []) name)
    none_below zero = refl
    none_below (suc n) = refl
item_before name (x ∷ xs) zero = nowhere_below (place_by (declares name) (x ∷ xs))
item_before name (x ∷ xs) (suc n) = by (declares name x) (below_next (place_by (declares name) xs) n ∙ item_before name xs n)
  where
    by : (b : Bool) → is_below (option_map (λ n. suc n) (place_by (declares name) xs)) (suc n) ≡ is_some (find_item (take n xs) name)
        → is_below (cond b (Some 0) (option_map (λ n. suc n) (place_by (declares name) xs))) (suc n) ≡ is_some (cond b (Some x) (find_item (take n xs) name))
    by true later = zero_below n
    by false later = later

body_before : (name : List ℕ) (x : Item) (xs : List Item) (n : ℕ) (body : Body) → is_below (place_by (declares_type name) xs) n ≡ is_some (find_type (take n xs) name)
    → is_below (cond (declares_type name (record { place = x.place; body = body })) (Some 0) (option_map (λ n. suc n) (place_by (declares_type name) xs))) (suc n) ≡ is_some (find (λ t. same_text t.name.text name) (own_types body ++ types_of (take n xs)))
body_before name x xs n (sorts t) later = by (same_text t.name.text name)
  where
    by : (b : Bool) → is_below (cond b (Some 0) (option_map (λ n. suc n) (place_by (declares_type name) xs))) (suc n) ≡ is_some (cond b (Some t) (find_type (take n xs) name))
    by true = zero_below n
    by false = below_next (place_by (declares_type name) xs) n ∙ later
body_before name x xs n (tree t) later = below_next (place_by (declares_type name) xs) n ∙ later
body_before name x xs n (lang t) later = below_next (place_by (declares_type name) xs) n ∙ later
body_before name x xs n (trans t) later = below_next (place_by (declares_type name) xs) n ∙ later
body_before name x xs n (def t) later = below_next (place_by (declares_type name) xs) n ∙ later
body_before name x xs n (assertion t) later = below_next (place_by (declares_type name) xs) n ∙ later

pub type_before : (name : List ℕ) (items : List Item) (n : ℕ) → is_below (place_by (declares_type name) items) n ≡ is_some (find_type (take n items) name)
type_before name [] n = none_below n
  where
    none_below : (n : ℕ) → false ≡ is_some (find_type (take n []) name)
    none_below zero = refl
    none_below (suc n) = refl
type_before name (x ∷ xs) zero = nowhere_below (place_by (declares_type name) (x ∷ xs))
type_before name (x ∷ xs) (suc n) = body_before name x xs n x.body (type_before name xs n)

sign_there : (o : Option Item) → option_and_then (λ s. s) (option_map own_signature o) ≡ option_map signature_of (option_and_then (λ item. own_type_item item.body) o)
sign_there None = refl
sign_there (Some item) = refl

-- the signature of the type that is found by the number of a name
pub signature_found : (name : List ℕ) (items : List Item) (place : Option ℕ) (n : ℕ) → place ≡ place_by (declares_type name) items → place ≡ Some n → signature_in (map own_signature items) n ≡ option_map signature_of (find_type items name)
signature_found name items place n is some =
    ap (option_and_then (λ s. s)) (slice_get-map own_signature items n) ∙ sign_there (slice_get items n)
    ∙ ap (option_map signature_of) (ap (type_there items) (sym some ∙ is) ∙ type_by_number name items)

pub signature_missing : (name : List ℕ) (items : List Item) (place : Option ℕ) → place ≡ place_by (declares_type name) items → place ≡ None → None ≡ option_map signature_of (find_type items name)
signature_missing name items place is none = ap (option_map signature_of) (type_missing name items place is none)
