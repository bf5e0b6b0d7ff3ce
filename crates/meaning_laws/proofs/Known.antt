-- The names in an expression of a well-formed program: each is known before it, or is that of a `lang`, a `trans` or a tree.
use Rattle.std.proofs.Common.{◌≡◌, inl, inr, ℕ, suc, ◌<◌, Bool, true, false, not, cond, List, [], ◌∷◌, ◌++◌, Option, Some, None, is_some, find, length, refl, sym, ap, ◌∙◌, subst, arith}
use Rattle.std.specs.Prelude.{◌&&◌}
use Rattle.std.specs.Option.{option_map_or}
use Rattle.fast_fault.specs.declared.code.Code.TheVariants.{DuplicateName, UsedTooEarly, UnknownName}
use Rattle.fast_fault.specs.declared.refusal.Refusal.{Refusal}
use Rattle.model_program.specs.Syntax.{Name}
use Rattle.model_grammar.specs.Syntax.{X, named, one, two, literal, Xs, no_x, and_x, Body, sorts, tree, lang, trans, def, assertion, Item}
use Rattle.model_names.specs.Declared.{same_text, own_name, declares, find_item}
use Rattle.model_names.specs.Kinds.{taken_by_one, taken_first, taken_second, a_tree}
use Rattle.model_checks.specs.Failures.{is_empty, failure, fails_if}
use Rattle.model_checks.specs.Labels.{labels_failures}
use Rattle.model_checks.specs.Rules.{constructor_failures, label_count_failures, fields_of}
use Rattle.model_checks.specs.Expressions.{is_known_later, nesting_failures, type_called, name_failures, needs_be, expected_as, wanted_second, count_xs, x_failures, xs_failures}
use Rattle.model_checks.specs.Programs.{name_again, body_failures}
use Rattle.model_checks.specs.Sound.{IsSound, StandsIn}
use Rattle.model_checks.proofs.Soundness.{empty_first, empty_second, passed, same_from_test, found_passes}
use Rattle.model_checks.proofs.SoundParts.{some_fails}
use Rattle.model_meaning.specs.Reached.{IsNamedIn, IsNamedInOne}

-- of two cuts of a list, the one whose front has no passing element is shorter
shorter : {A : Type 0} (p : A → Bool) (xs ys front back : List A) → xs ++ ys ≡ front ++ back → is_some (find p xs) ≡ true → is_some (find p front) ≡ false → length front < length xs
shorter p [] ys front back e there none = absurd (cc)
shorter p (x ∷ xs) ys [] back e there none = omega arith
shorter p (x ∷ xs) ys (y ∷ front) back e there none =
    let same : x ≡ y = cc in
    let later : xs ++ ys ≡ front ++ back = cc in
    by (p y) refl (ap p same) none there (shorter p xs ys front back later)
  where
    by : (b : Bool) → p y ≡ b → p x ≡ p y → is_some (cond b (Some y) (find p front)) ≡ false → is_some (cond (p x) (Some x) (find p xs)) ≡ true
        → (is_some (find p xs) ≡ true → is_some (find p front) ≡ false → length front < length xs) → suc (length front) < suc (length xs)
    by true own same bad there later = absurd (cc)
    by false own same none there later =
        let low = later (subst (λ b. is_some (cond b (Some x) (find p xs)) ≡ true) (same ∙ own) there) none in
        omega (arith, low)

-- an item that declares a name has it
pub has_name : (name : List ℕ) (o : Option Name) → option_map_or (λ k. same_text k.text name) o false ≡ true → (k : Name) × (o ≡ Some k) × (k.text ≡ name)
has_name name None e = absurd (cc)
has_name name (Some k) e = (k, refl, same_from_test k.text name e)

module _ (items : List Item) (whole : IsSound items) where
  first_name : (before : List Item) (own : Name) (rest : List Refusal) (n : Name) → is_empty (name_again items before own ++ rest) ≡ true → Some own ≡ Some n → is_some (find_item before n.text) ≡ false
  first_name before own rest n e same =
      let is : own ≡ n = cc in
      subst (λ k. is_some (find_item before k.text) ≡ false) is (passed (is_some (find_item before own.text)) DuplicateName own.place (empty_first (name_again items before own) rest e))

  -- no earlier item has the name of an item
  by_body_name : (before : List Item) (body : Body) (n : Name) → is_empty (body_failures items before body) ≡ true → own_name body ≡ Some n → is_some (find_item before n.text) ≡ false
  by_body_name before (sorts t) n e same = absurd (cc)
  by_body_name before (tree t) n e same = first_name before t.name _ n e same
  by_body_name before (lang l) n e same = first_name before l.name _ n e same
  by_body_name before (trans t) n e same = first_name before t.name _ n e same
  by_body_name before (def d) n e same = first_name before d.name _ n e same
  by_body_name before (assertion a) n e same = absurd (cc)

  pub new_name : (item : Item) (at : StandsIn items item) (n : Name) → own_name item.body ≡ Some n → is_some (find_item at.before n.text) ≡ false
  new_name item at n same = by_body_name at.before item.body n (whole.each item at) same

  -- ---- the names in an expression

  pub record IsKnown (before : List Item) (m : List ℕ) : Type 0 where
    pub place : Name
    pub is : place.text ≡ m
    pub fine : is_empty (name_failures items before place) ≡ true

  mutual
    pub names_known : (before : List Item) (around : ℕ) (expected : Option (List ℕ)) (x : X) → is_empty (x_failures items before around expected x) ≡ true → (m : List ℕ) → IsNamedIn x m → IsKnown before m
    names_known before around expected (named n) e m is = record { place = n; is = is; fine = e }
    names_known before around expected (one op place x) e m is =
        let inner = empty_second (nesting_failures around place) (x_failures items before (suc around) None x ++ needs_be items before None (taken_by_one op) x) e in
        names_known before (suc around) None x (empty_first (x_failures items before (suc around) None x) (needs_be items before None (taken_by_one op) x) inner) m is
    names_known before around expected (two op place x y) e m (inl is) =
        let inner = empty_second (nesting_failures around place) _ e in
        names_known before (suc around) None x (empty_first (x_failures items before (suc around) None x) _ inner) m is
    names_known before around expected (two op place x y) e m (inr is) =
        let inner = empty_second (nesting_failures around place) _ e in
        let second = empty_second (needs_be items before None (taken_first op) x) _ (empty_second (x_failures items before (suc around) None x) _ inner) in
        names_known before (suc around) (expected_as (taken_second op) (wanted_second items before op x)) y (empty_first (x_failures items before (suc around) (expected_as (taken_second op) (wanted_second items before op x)) y) _ second) m is
    names_known before around expected (literal name labels xs) e m is =
        let a = constructor_failures (type_called items before expected) name (count_xs xs) in
        let inner = empty_second a _ e in
        let counted = empty_second (label_count_failures (type_called items before expected) name (length labels)) _ inner in
        let last = empty_second (labels_failures (Some []) (fields_of (type_called items before expected)) labels) (xs_failures items before around expected xs) counted in
        all_known before around expected xs last m is

    all_known : (before : List Item) (around : ℕ) (type : Option (List ℕ)) (xs : Xs) → is_empty (xs_failures items before around type xs) ≡ true → (m : List ℕ) → IsNamedInOne xs m → IsKnown before m
    all_known before around type no_x e m is = absurd is
    all_known before around type (and_x x xs) e m (inl is) = names_known before around type x (empty_first (x_failures items before around type x) _ e) m is
    all_known before around type (and_x x xs) e m (inr is) =
        all_known before around type xs (empty_second (needs_be items before type a_tree x) _ (empty_second (x_failures items before around type x) _ e)) m is

  pub record IsFound (before : List Item) (m : List ℕ) : Type 0 where
    pub item : Item
    pub found : find_item items m ≡ Some item
    pub early : (is_known_later item.body && not (is_some (find_item before m))) ≡ false

  pub by_known : (before : List Item) (n : Name) (o : Option Item) → find_item items n.text ≡ o
      → is_empty (option_map_or (λ item. fails_if (is_known_later item.body && not (is_some (find_item before n.text))) UsedTooEarly n.place) o (failure UnknownName n.place)) ≡ true → IsFound before n.text
  by_known before n None found e = absurd (some_fails UnknownName n.place e)
  by_known before n (Some item) found e = record { item = item; found = found; early = passed (is_known_later item.body && not (is_some (find_item before n.text))) UsedTooEarly n.place e }

  pub found_of : (before : List Item) (m : List ℕ) → IsKnown before m → IsFound before m
  found_of before m known = subst (IsFound before) known.is (by_known before known.place (find_item items known.place.text) refl known.fine)

  -- an item that defines a name which is known before another one stands before it
  pub stands_earlier : (before : List Item) (from : List Item) → items ≡ before ++ from → (m : Name) (item : Item) → find_item items m.text ≡ Some item → (at : StandsIn items item) → is_some (find_item before m.text) ≡ true → length at.before < length before
  stands_earlier before from split m item found at there =
      let own = has_name m.text (own_name item.body) (found_passes (declares m.text) items item found) in
      let new : is_some (find_item at.before m.text) ≡ false = subst (λ t. is_some (find_item at.before t) ≡ false) own.2 (new_name item at own.0 own.1) in
      shorter (declares m.text) before from at.before (item ∷ at.behind) (sym split ∙ at.is) there new
