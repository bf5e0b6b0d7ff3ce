-- What is so of a well-formed program, from its having no failing condition.
use Rattle.std.proofs.Common.{◌≡◌, ℕ, zero, suc, ◌≤◌, Bool, true, false, ◌&&◌, ◌||◌, cond, List, [], ◌∷◌, ◌++◌, length, Option, Some, None, Contains, refl, sym, ap, ◌∙◌, subst, arith, append_assoc, append-nil}
use Rattle.std.proofs.lemmas.Slice.Eq.{bytes_eq-Decides}
use Rattle.std.proofs.lemmas.List.Folds.{list_any_at}
use Rattle.std.proofs.lemmas.List.Concat.{flat_map-append}
use Rattle.std.proofs.lemmas.List.Elements.{Contains-append_left, Contains-push}
use Rattle.std.specs.Prelude.{not, is_some, find, slice_get}
use Rattle.std.specs.List.{list_any, list_all, flat_map}
use Rattle.std.specs.Option.{option_map_or}
use Rattle.fast_fault.specs.declared.code.Code.{Code}
use Rattle.fast_fault.specs.declared.place.Pos.{Pos}
use Rattle.fast_fault.specs.declared.refusal.Refusal.{Refusal}
use Rattle.model_program.specs.Syntax.{Name, TypeItem}
use Rattle.model_grammar.specs.Syntax.{Body, sorts, tree, lang, trans, def, assertion, Item}
use Rattle.model_names.specs.Declared.{same_text, types_of, own_types}
use Rattle.model_checks.specs.Failures.{fails_if, is_empty}
use Rattle.model_checks.specs.Types.{is_among, repeated_behind, repeated}
use Rattle.model_checks.specs.Programs.{body_failures, failures_behind}
use Rattle.model_checks.specs.Sound.{are_distinct}

-- ---- lists of failing conditions that are empty

pub empty_first : (xs ys : List Refusal) → is_empty (xs ++ ys) ≡ true → is_empty xs ≡ true
empty_first [] ys e = refl
empty_first (x ∷ xs) ys e = absurd (cc)

pub empty_second : (xs ys : List Refusal) → is_empty (xs ++ ys) ≡ true → is_empty ys ≡ true
empty_second [] ys e = e
empty_second (x ∷ xs) ys e = absurd (cc)

pub empty_both : (xs ys : List Refusal) → is_empty xs ≡ true → is_empty ys ≡ true → is_empty (xs ++ ys) ≡ true
empty_both [] ys e f = f
empty_both (x ∷ xs) ys e f = absurd (cc)

-- no failing condition, so its test is false
pub passed : (b : Bool) (code : Code) (place : Pos) → is_empty (fails_if b code place) ≡ true → b ≡ false
passed true code place e = absurd (cc)
passed false code place e = refl

pub not_false : (b : Bool) → not b ≡ false → b ≡ true
not_false true e = refl
not_false false e = absurd (cc)

pub needed : (b : Bool) (code : Code) (place : Pos) → is_empty (fails_if (not b) code place) ≡ true → b ≡ true
needed b code place e = not_false b (passed (not b) code place e)

pub of_each : {A : Type 0} (f : A → List Refusal) (xs : List A) (x : A) → is_empty (flat_map f xs) ≡ true → Contains xs x → is_empty (f x) ≡ true
of_each f [] x e (k, low, is) = absurd (omega (arith, low))
of_each f (y ∷ xs) x e (zero, low, is) = ap (λ z. is_empty (f z)) (sym is) ∙ empty_first (f y) (flat_map f xs) e
of_each f (y ∷ xs) x e (suc k, low, is) = of_each f xs x (empty_second (f y) (flat_map f xs) e) (k, omega (arith, low), is)

pub all_by : {A : Type 0} (p : A → Bool) (code : A → Code) (place : A → Pos) (xs : List A) → is_empty (flat_map (λ x. fails_if (not (p x)) (code x) (place x)) xs) ≡ true → list_all p xs ≡ true
all_by p code place [] e = refl
all_by p code place (x ∷ xs) e =
    let first : p x ≡ true = needed (p x) (code x) (place x) (empty_first (fails_if (not (p x)) (code x) (place x)) (flat_map (λ x. fails_if (not (p x)) (code x) (place x)) xs) e) in
    let later : list_all p xs ≡ true = all_by p code place xs (empty_second (fails_if (not (p x)) (code x) (place x)) (flat_map (λ x. fails_if (not (p x)) (code x) (place x)) xs) e) in
    ap (λ b. b && list_all p xs) first ∙ later

-- there is none at this place
pub at_most : {A : Type 0} (f : A → List Refusal) (xs : List A) (n : ℕ) → ((x : A) → is_empty (f x) ≡ true → ⊥) → is_empty (option_map_or f (slice_get xs n) []) ≡ true → length xs ≤ n
at_most f [] n some e = omega arith
at_most f (x ∷ xs) zero some e = absurd (some x e)
at_most f (x ∷ xs) (suc n) some e = omega (arith, at_most f xs n some e)

-- ---- names

pub same_from_test : (x y : List ℕ) → same_text x y ≡ true → x ≡ y
same_from_test x y e = (bytes_eq-Decides x y).0 e

pub same_itself : (x : List ℕ) → same_text x x ≡ true
same_itself x = (bytes_eq-Decides x x).1 refl

none_passes : {A : Type 0} (p : A → Bool) (xs : List A) (x : A) → list_any p xs ≡ false → Contains xs x → p x ≡ false
none_passes p xs x e (k, low, is) = by (p x) refl
  where
    by : (b : Bool) → p x ≡ b → b ≡ false
    by true t = let some : true ≡ false = sym (list_any_at p xs k x low (ap p is ∙ t)) ∙ e in absurd (cc)
    by false t = refl

either_false : (a b : Bool) → a ≡ false → b ≡ false → (a || b) ≡ false
either_false true b e f = absurd (cc)
either_false false b e f = f

-- no later name is one of those before
none_later : (code : Code) (before names : List Name) (b : Name) → is_empty (repeated_behind code before names) ≡ true → Contains before b → list_any (λ m. same_text b.text m.text) names ≡ false
none_later code before [] b e at = refl
none_later code before (m ∷ names) b e at =
    either_false (same_text b.text m.text) (list_any (λ m. same_text b.text m.text) names)
    (none_passes (λ n. same_text n.text m.text) before b (passed (is_among before m.text) code m.place (empty_first (fails_if (is_among before m.text) code m.place) (repeated_behind code (before ++ m ∷ []) names) e)) at)
    (none_later code (before ++ m ∷ []) names b (empty_second (fails_if (is_among before m.text) code m.place) (repeated_behind code (before ++ m ∷ []) names) e) (Contains-append_left before (m ∷ []) b at))

distinct_behind : (code : Code) (before names : List Name) → is_empty (repeated_behind code before names) ≡ true → are_distinct names ≡ true
distinct_behind code before [] e = refl
distinct_behind code before (n ∷ names) e =
    let rest : is_empty (repeated_behind code (before ++ n ∷ []) names) ≡ true = empty_second (fails_if (is_among before n.text) code n.place) (repeated_behind code (before ++ n ∷ []) names) e in
    let none : list_any (λ m. same_text n.text m.text) names ≡ false = none_later code (before ++ n ∷ []) names n rest (Contains-push before n) in
    ap (λ b. not b && are_distinct names) none ∙ distinct_behind code (before ++ n ∷ []) names rest

pub distinct : (code : Code) (names : List Name) → is_empty (repeated code names) ≡ true → are_distinct names ≡ true
distinct code names e = distinct_behind code [] names e

-- ---- what is found

pub found_passes : {A : Type 0} (p : A → Bool) (xs : List A) (x : A) → find p xs ≡ Some x → p x ≡ true
found_passes p [] x e = absurd (cc)
found_passes p (y ∷ ys) x e = by (p y) refl e (found_passes p ys x)
  where
    by : (b : Bool) → p y ≡ b → cond b (Some y) (find p ys) ≡ Some x → (find p ys ≡ Some x → p x ≡ true) → p x ≡ true
    by true t e later = let same : y ≡ x = cc in ap p (sym same) ∙ t
    by false t e later = later e

-- where something stands in a list
pub record Splits {A : Type 0} (xs : List A) (x : A) : Type 0 where
  pub before : List A
  pub behind : List A
  pub is : xs ≡ before ++ x ∷ behind

pub found_splits : {A : Type 0} (p : A → Bool) (xs : List A) (x : A) → find p xs ≡ Some x → Splits xs x
found_splits p [] x e = absurd (cc)
found_splits p (y ∷ ys) x e = by (p y) e (found_splits p ys x)
  where
    by : (b : Bool) → cond b (Some y) (find p ys) ≡ Some x → (find p ys ≡ Some x → Splits ys x) → Splits (y ∷ ys) x
    by true e later = let same : y ≡ x = cc in record { before = []; behind = ys; is = ap (λ z. z ∷ ys) same }
    by false e later = let rest = later e in record { before = y ∷ rest.before; behind = rest.behind; is = ap (λ zs. y ∷ zs) rest.is }

pub skip_found : {A : Type 0} (p : A → Bool) (xs ys : List A) → is_some (find p xs) ≡ false → find p (xs ++ ys) ≡ find p ys
skip_found p [] ys e = refl
skip_found p (x ∷ xs) ys e = by (p x) e (skip_found p xs ys)
  where
    by : (b : Bool) → is_some (cond b (Some x) (find p xs)) ≡ false → (is_some (find p xs) ≡ false → find p (xs ++ ys) ≡ find p ys) → cond b (Some x) (find p (xs ++ ys)) ≡ find p ys
    by true e later = absurd (cc)
    by false e later = later e

pub finds_first : {A : Type 0} (p : A → Bool) (before behind : List A) (x : A) → is_some (find p before) ≡ false → p x ≡ true → find p (before ++ x ∷ behind) ≡ Some x
finds_first p before behind x none here = skip_found p before (x ∷ behind) none ∙ ap (λ b. cond b (Some x) (find p behind)) here

pub is_there : {A : Type 0} (o : Option A) → is_some o ≡ true → (x : A) × (o ≡ Some x)
is_there None e = absurd (cc)
is_there (Some x) e = (x, refl)

-- a type that is found is that of an item
pub record HasItem (items : List Item) (t : TypeItem) : Type 0 where
  pub item : Item
  pub splits : Splits items item
  pub is : item.body ≡ sorts t

later_item : (first : Item) (items : List Item) (t : TypeItem) → HasItem items t → HasItem (first ∷ items) t
later_item first items t h = record { item = h.item; splits = record { before = first ∷ h.splits.before; behind = h.splits.behind; is = ap (λ zs. first ∷ zs) h.splits.is }; is = h.is }

first_item : (p : TypeItem → Bool) (item : Item) (items : List Item) (t u : TypeItem) (b : Bool) → item.body ≡ sorts u → cond b (Some u) (find p (types_of items)) ≡ Some t → (find p (types_of items) ≡ Some t → HasItem items t) → HasItem (item ∷ items) t
first_item p item items t u true is e later = let same : u ≡ t = cc in record { item = item; splits = record { before = []; behind = items; is = refl }; is = is ∙ ap sorts same }
first_item p item items t u false is e later = later_item item items t (later e)

type_by : (p : TypeItem → Bool) (item : Item) (items : List Item) (t : TypeItem) (body : Body) → item.body ≡ body → find p (own_types body ++ types_of items) ≡ Some t → (find p (types_of items) ≡ Some t → HasItem items t) → HasItem (item ∷ items) t
type_by p item items t (sorts u) is e later = first_item p item items t u (p u) is e later
type_by p item items t (tree u) is e later = later_item item items t (later e)
type_by p item items t (lang u) is e later = later_item item items t (later e)
type_by p item items t (trans u) is e later = later_item item items t (later e)
type_by p item items t (def u) is e later = later_item item items t (later e)
type_by p item items t (assertion u) is e later = later_item item items t (later e)

pub type_item : (p : TypeItem → Bool) (items : List Item) (t : TypeItem) → find p (types_of items) ≡ Some t → HasItem items t
type_item p [] t e = absurd (cc)
type_item p (item ∷ items) t e = type_by p item items t item.body refl e (type_item p items t)

-- the types of items behind others
pub types_behind : (before items : List Item) → types_of (before ++ items) ≡ types_of before ++ types_of items
types_behind before items = flat_map-append (λ item. own_types item.body) before items

-- ---- items

-- nothing fails in an item among those that are looked at
pub item_passes : (items before pre : List Item) (item : Item) (post : List Item) → is_empty (failures_behind items before (pre ++ item ∷ post)) ≡ true → is_empty (body_failures items (before ++ pre) item.body) ≡ true
item_passes items before [] item post e = subst (λ (l : List Item). is_empty (body_failures items l item.body) ≡ true) (sym (append-nil before)) (empty_first (body_failures items before item.body) (failures_behind items (before ++ item ∷ []) post) e)
item_passes items before (first ∷ pre) item post e =
    subst (λ (l : List Item). is_empty (body_failures items l item.body) ≡ true) (append_assoc before (first ∷ []) pre)
    (item_passes items (before ++ first ∷ []) pre item post (empty_second (body_failures items before first.body) (failures_behind items (before ++ first ∷ []) (pre ++ item ∷ post)) e))
