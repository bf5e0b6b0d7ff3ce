-- The expressions of a well-formed program are made of what their places need.
use Rattle.std.proofs.Common.{◌≡◌, ℕ, suc, true, false, List, [], ◌++◌, length, Option, Some, None, refl}
use Rattle.std.proofs.lemmas.Bool.{and_from}
use Rattle.fast_fault.specs.declared.code.Code.TheVariants.{WrongKind}
use Rattle.fast_fault.specs.declared.place.Pos.{Pos}
use Rattle.fast_fault.specs.declared.refusal.Refusal.{Refusal}
use Rattle.model_program.specs.Syntax.{Name}
use Rattle.model_grammar.specs.declared.Op1.{Op1}
use Rattle.model_grammar.specs.declared.Op1.TheVariants.{Complement, Minimize, Domain, GetWitness}
use Rattle.model_grammar.specs.declared.Op2.{Op2}
use Rattle.model_grammar.specs.declared.Op2.TheVariants.{Intersect, Union, Difference, PreImage, Compose, Restrict, RestrictOut, Apply}
use Rattle.model_grammar.specs.Syntax.{X, named, one, two, literal, Xs, no_x, and_x, Claim, equal, member, empty, type_check, Body, sorts, tree, lang, trans, def, assertion, Item}
use Rattle.model_names.specs.Kinds.{Kind, language, transformation, a_tree, taken_by_one, taken_first, taken_second, defined_kind, declared_type, kind_of}
use Rattle.model_checks.specs.Failures.{is_empty, fails_if}
use Rattle.model_checks.specs.Labels.{labels_failures}
use Rattle.model_checks.specs.Rules.{constructor_failures, label_count_failures, fields_of, type_name_failures}
use Rattle.model_checks.specs.Expressions.{count_xs, type_called, nesting_failures, is_other_kind, needs_kind, needs_type, needs_be, expected_as, wanted_second, x_failures, xs_failures, whole_failures, place_of_x, type_as, output_as}
use Rattle.model_checks.specs.Programs.{is_tree, name_again, into_failures, needs_output, claim_failures, body_failures}
use Rattle.model_checks.specs.Sound.{IsSound, StandsIn}
use Rattle.model_checks.proofs.Soundness.{empty_first, empty_second, passed}
use Rattle.meaning_laws.specs.Shapes.{has_automaton_shape, has_tree_shape, have_tree_shapes, has_claim_shape, has_body_shape}

-- what isn't of another kind than a language or a transformation is no tree
no_tree : (kind : Kind) (o : Option Kind) → is_tree (Some kind) ≡ false → is_other_kind kind o ≡ false → is_tree o ≡ false
no_tree kind None k e = refl
no_tree kind (Some language) k e = refl
no_tree kind (Some transformation) k e = refl
no_tree language (Some a_tree) k e = absurd (cc)
no_tree transformation (Some a_tree) k e = absurd (cc)
no_tree a_tree (Some a_tree) k e = absurd (cc)

defined_no_tree : (into : Option Name) → is_tree (Some (defined_kind into)) ≡ false
defined_no_tree None = refl
defined_no_tree (Some into) = refl

module _ (items before : List Item) where
  not_other : (type : Option (List ℕ)) (kind : Kind) (x : X) → is_empty (needs_be items before type kind x) ≡ true → is_other_kind kind (kind_of items x) ≡ false
  not_other type kind x e = passed (is_other_kind kind (kind_of items x)) WrongKind (place_of_x x) (empty_first (needs_kind items before kind x) (needs_type items before type kind x) e)

  -- nothing fails in the expression, and it is no tree
  record IsNoTree (around : ℕ) (expected : Option (List ℕ)) (x : X) : Type 0 where
    fine : is_empty (x_failures items before around expected x) ≡ true
    apart : is_tree (kind_of items x) ≡ false

  operand : (around : ℕ) (expected type : Option (List ℕ)) (kind : Kind) (x : X) → is_tree (Some kind) ≡ false → is_empty (x_failures items before around expected x) ≡ true → is_empty (needs_be items before type kind x) ≡ true → IsNoTree around expected x
  operand around expected type kind x k fine e = record { fine = fine; apart = no_tree kind (kind_of items x) k (not_other type kind x e) }

  of_one : (around : ℕ) (expected : Option (List ℕ)) (op : Op1) (place : Pos) (x : X) → is_tree (Some (taken_by_one op)) ≡ false → is_empty (x_failures items before around expected (one op place x)) ≡ true → IsNoTree (suc around) None x
  of_one around expected op place x k e =
      let inside = empty_second (nesting_failures around place) (x_failures items before (suc around) None x ++ needs_be items before None (taken_by_one op) x) e in
      operand (suc around) None None (taken_by_one op) x k
      (empty_first (x_failures items before (suc around) None x) (needs_be items before None (taken_by_one op) x) inside)
      (empty_second (x_failures items before (suc around) None x) (needs_be items before None (taken_by_one op) x) inside)

  module _ (around : ℕ) (expected : Option (List ℕ)) (op : Op2) (place : Pos) (x y : X) (e : is_empty (x_failures items before around expected (two op place x y)) ≡ true) where
    abbrev expected_second : Option (List ℕ)
    expected_second = expected_as (taken_second op) (wanted_second items before op x)

    abbrev last_failures : List Refusal
    last_failures = x_failures items before (suc around) expected_second y ++ needs_be items before (wanted_second items before op x) (taken_second op) y

    inside : is_empty (x_failures items before (suc around) None x ++ (needs_be items before None (taken_first op) x ++ last_failures)) ≡ true
    inside = empty_second (nesting_failures around place) (x_failures items before (suc around) None x ++ (needs_be items before None (taken_first op) x ++ last_failures)) e

    behind : is_empty (needs_be items before None (taken_first op) x ++ last_failures) ≡ true
    behind = empty_second (x_failures items before (suc around) None x) (needs_be items before None (taken_first op) x ++ last_failures) inside

    last : is_empty last_failures ≡ true
    last = empty_second (needs_be items before None (taken_first op) x) last_failures behind

    of_first : is_tree (Some (taken_first op)) ≡ false → IsNoTree (suc around) None x
    of_first k = operand (suc around) None None (taken_first op) x k (empty_first (x_failures items before (suc around) None x) (needs_be items before None (taken_first op) x ++ last_failures) inside) (empty_first (needs_be items before None (taken_first op) x) last_failures behind)

    second_fine : is_empty (x_failures items before (suc around) expected_second y) ≡ true
    second_fine = empty_first (x_failures items before (suc around) expected_second y) (needs_be items before (wanted_second items before op x) (taken_second op) y) last

    second_be : is_empty (needs_be items before (wanted_second items before op x) (taken_second op) y) ≡ true
    second_be = empty_second (x_failures items before (suc around) expected_second y) (needs_be items before (wanted_second items before op x) (taken_second op) y) last

    of_second : is_tree (Some (taken_second op)) ≡ false → IsNoTree (suc around) expected_second y
    of_second k = operand (suc around) expected_second (wanted_second items before op x) (taken_second op) y k second_fine second_be

  -- what is no tree has the shape of a language or a transformation
  automaton : (around : ℕ) (expected : Option (List ℕ)) (x : X) → is_empty (x_failures items before around expected x) ≡ true → is_tree (kind_of items x) ≡ false → has_automaton_shape x ≡ true
  automaton around expected (named n) e apart = refl
  automaton around expected (one Complement place x) e apart = let o = of_one around expected Complement place x refl e in automaton (suc around) None x o.fine o.apart
  automaton around expected (one Minimize place x) e apart = let o = of_one around expected Minimize place x refl e in automaton (suc around) None x o.fine o.apart
  automaton around expected (one Domain place x) e apart = let o = of_one around expected Domain place x refl e in automaton (suc around) None x o.fine o.apart
  automaton around expected (one GetWitness place x) e apart = absurd (cc)
  automaton around expected (two Intersect place x y) e apart =
      let a = of_first around expected Intersect place x y e refl in let b = of_second around expected Intersect place x y e refl in
      and_from _ _ (automaton (suc around) None x a.fine a.apart) (automaton (suc around) _ y b.fine b.apart)
  automaton around expected (two Union place x y) e apart =
      let a = of_first around expected Union place x y e refl in let b = of_second around expected Union place x y e refl in
      and_from _ _ (automaton (suc around) None x a.fine a.apart) (automaton (suc around) _ y b.fine b.apart)
  automaton around expected (two Difference place x y) e apart =
      let a = of_first around expected Difference place x y e refl in let b = of_second around expected Difference place x y e refl in
      and_from _ _ (automaton (suc around) None x a.fine a.apart) (automaton (suc around) _ y b.fine b.apart)
  automaton around expected (two PreImage place x y) e apart =
      let a = of_first around expected PreImage place x y e refl in let b = of_second around expected PreImage place x y e refl in
      and_from _ _ (automaton (suc around) None x a.fine a.apart) (automaton (suc around) _ y b.fine b.apart)
  automaton around expected (two Compose place x y) e apart =
      let a = of_first around expected Compose place x y e refl in let b = of_second around expected Compose place x y e refl in
      and_from _ _ (automaton (suc around) None x a.fine a.apart) (automaton (suc around) _ y b.fine b.apart)
  automaton around expected (two Restrict place x y) e apart =
      let a = of_first around expected Restrict place x y e refl in let b = of_second around expected Restrict place x y e refl in
      and_from _ _ (automaton (suc around) None x a.fine a.apart) (automaton (suc around) _ y b.fine b.apart)
  automaton around expected (two RestrictOut place x y) e apart =
      let a = of_first around expected RestrictOut place x y e refl in let b = of_second around expected RestrictOut place x y e refl in
      and_from _ _ (automaton (suc around) None x a.fine a.apart) (automaton (suc around) _ y b.fine b.apart)
  automaton around expected (two Apply place x y) e apart = absurd (cc)
  automaton around expected (literal name labels xs) e apart = absurd (cc)

  -- what isn't of another kind than a tree has the shape of one
  mutual
    a_tree_of : (around : ℕ) (expected : Option (List ℕ)) (x : X) → is_empty (x_failures items before around expected x) ≡ true → is_other_kind a_tree (kind_of items x) ≡ false → has_tree_shape x ≡ true
    a_tree_of around expected (named n) e other = refl
    a_tree_of around expected (one GetWitness place x) e other = let o = of_one around expected GetWitness place x refl e in automaton (suc around) None x o.fine o.apart
    a_tree_of around expected (one Complement place x) e other = absurd (cc)
    a_tree_of around expected (one Minimize place x) e other = absurd (cc)
    a_tree_of around expected (one Domain place x) e other = absurd (cc)
    a_tree_of around expected (two Apply place f x) e other =
        let a = of_first around expected Apply place f x e refl in
        and_from _ _ (automaton (suc around) None f a.fine a.apart)
        (a_tree_of (suc around) _ x (second_fine around expected Apply place f x e) (not_other _ a_tree x (second_be around expected Apply place f x e)))
    a_tree_of around expected (two Intersect place x y) e other = absurd (cc)
    a_tree_of around expected (two Union place x y) e other = absurd (cc)
    a_tree_of around expected (two Difference place x y) e other = absurd (cc)
    a_tree_of around expected (two PreImage place x y) e other = absurd (cc)
    a_tree_of around expected (two Compose place x y) e other = absurd (cc)
    a_tree_of around expected (two Restrict place x y) e other = absurd (cc)
    a_tree_of around expected (two RestrictOut place x y) e other = absurd (cc)
    a_tree_of around expected (literal name labels xs) e other =
        let called = type_called items before expected in
        let ctor = constructor_failures called name (count_xs xs) in
        let count = label_count_failures called name (length labels) in
        let each = labels_failures (Some []) (fields_of called) labels in
        let rest = xs_failures items before around expected xs in
        trees_of around expected xs (empty_second each rest (empty_second count (each ++ rest) (empty_second ctor (count ++ (each ++ rest)) e)))

    trees_of : (around : ℕ) (type : Option (List ℕ)) (xs : Xs) → is_empty (xs_failures items before around type xs) ≡ true → have_tree_shapes xs ≡ true
    trees_of around type no_x e = refl
    trees_of around type (and_x x xs) e =
        let behind = empty_second (x_failures items before around type x) (needs_be items before type a_tree x ++ xs_failures items before around type xs) e in
        and_from _ _ (a_tree_of around type x (empty_first (x_failures items before around type x) _ e) (not_other type a_tree x (empty_first (needs_be items before type a_tree x) _ behind)))
        (trees_of around type xs (empty_second (needs_be items before type a_tree x) (xs_failures items before around type xs) behind))

  whole_automaton : (type : Option (List ℕ)) (kind : Kind) (x : X) → is_tree (Some kind) ≡ false → is_empty (whole_failures items before type kind x) ≡ true → has_automaton_shape x ≡ true
  whole_automaton type kind x k e =
      let fx = x_failures items before 0 (expected_as kind type) x in
      let o = operand 0 (expected_as kind type) type kind x k (empty_first fx (needs_be items before type kind x) e) (empty_second fx (needs_be items before type kind x) e) in
      automaton 0 (expected_as kind type) x o.fine o.apart

  whole_tree : (type : Option (List ℕ)) (x : X) → is_empty (whole_failures items before type a_tree x) ≡ true → has_tree_shape x ≡ true
  whole_tree type x e =
      let fx = x_failures items before 0 type x in
      a_tree_of 0 type x (empty_first fx (needs_be items before type a_tree x) e) (not_other type a_tree x (empty_second fx (needs_be items before type a_tree x) e))

  pub claim_shape : (claim : Claim) → is_empty (claim_failures items before claim) ≡ true → has_claim_shape claim ≡ true
  claim_shape (equal x y) e =
      let first = whole_failures items before None language x in let second = whole_failures items before (type_as items before language x) language y in
      and_from _ _ (whole_automaton None language x refl (empty_first first second e)) (whole_automaton (type_as items before language x) language y refl (empty_second first second e))
  claim_shape (member x y) e =
      let first = whole_failures items before None language y in let second = whole_failures items before (type_as items before language y) a_tree x in
      and_from _ _ (whole_tree (type_as items before language y) x (empty_second first second e)) (whole_automaton None language y refl (empty_first first second e))
  claim_shape (empty x) e =
      let fx = x_failures items before 0 None x in let none = fails_if (is_tree (kind_of items x)) WrongKind (place_of_x x) in
      automaton 0 None x (empty_first fx none e) (passed (is_tree (kind_of items x)) WrongKind (place_of_x x) (empty_second fx none e))
  claim_shape (type_check x f z) e =
      let first = whole_failures items before None language x in
      let second = whole_failures items before (type_as items before language x) transformation f in
      let third = whole_failures items before (output_as items before transformation f) language z in
      let behind = empty_second first (second ++ third) e in
      and_from _ _ (whole_automaton None language x refl (empty_first first (second ++ third) e))
      (and_from _ _ (whole_automaton (type_as items before language x) transformation f refl (empty_first second third behind)) (whole_automaton (output_as items before transformation f) language z refl (empty_second second third behind)))

  pub body_shape : (body : Body) → is_empty (body_failures items before body) ≡ true → has_body_shape body ≡ true
  body_shape (sorts t) e = refl
  body_shape (tree t) e =
      let typed = type_name_failures items t.of in let value = whole_failures items before (declared_type items t.of) a_tree t.value in
      whole_tree (declared_type items t.of) t.value (empty_second typed value (empty_second (name_again items before t.name) (typed ++ value) e))
  body_shape (lang l) e = refl
  body_shape (trans t) e = refl
  body_shape (def d) e =
      let typed = type_name_failures items d.from in let into = into_failures items before d.into in
      let value = whole_failures items before (declared_type items d.from) (defined_kind d.into) d.value in let output = needs_output items before d.into d.value in
      let behind = empty_second (name_again items before d.name) (typed ++ (into ++ (value ++ output))) e in
      whole_automaton (declared_type items d.from) (defined_kind d.into) d.value (defined_no_tree d.into) (empty_first value output (empty_second into (value ++ output) (empty_second typed (into ++ (value ++ output)) behind)))
  body_shape (assertion a) e = claim_shape a.claim e

-- so each item of a sound program has its shape
pub item_shape : (items : List Item) → IsSound items → (item : Item) → StandsIn items item → has_body_shape item.body ≡ true
item_shape items whole item at = body_shape items at.before item.body (whole.each item at)
