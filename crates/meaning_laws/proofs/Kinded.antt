-- The expressions of a well-formed program have a kind, and languages and transformations have types.
use Rattle.std.proofs.Common.{◌≡◌, ℕ, suc, true, List, ◌++◌, Option, Some, None, refl, sym, ap, ◌∙◌, subst}
use Rattle.std.specs.Option.{option_and_then}
use Rattle.fast_fault.specs.declared.code.Code.TheVariants.{WrongKind}
use Rattle.model_program.specs.Syntax.{Name}
use Rattle.fast_fault.specs.declared.place.Pos.{Pos}
use Rattle.model_grammar.specs.declared.Op1.{Op1}
use Rattle.model_grammar.specs.declared.Op2.{Op2}
use Rattle.model_grammar.specs.declared.Op1.TheVariants.{Complement, Minimize, Domain, GetWitness}
use Rattle.model_grammar.specs.declared.Op2.TheVariants.{Intersect, Union, Difference, PreImage, Compose, Restrict, RestrictOut, Apply}
use Rattle.model_grammar.specs.Syntax.{X, named, one, two, literal, Body, sorts, tree, lang, trans, DefItem, def, assertion, Item}
use Rattle.model_names.specs.Declared.{own_name, declares, find_item}
use Rattle.model_names.specs.Kinds.{Kind, language, transformation, a_tree, same_kind, if_kind, taken_by_one, taken_first, taken_second, own_kind, own_type, own_output, defined_kind, declared_type, kind_of, type_of, output_of}
use Rattle.model_checks.specs.Failures.{is_empty}
use Rattle.model_checks.specs.Expressions.{nesting_failures, is_other_kind, needs_kind, needs_type, needs_be, expected_as, wanted_second, x_failures, place_of_x}
use Rattle.model_checks.specs.Rules.{type_name_failures}
use Rattle.model_checks.specs.Programs.{name_again, body_failures, into_failures}
use Rattle.model_checks.specs.Sound.{IsSound, StandsIn}
use Rattle.model_checks.proofs.Soundness.{empty_first, empty_second, passed, not_false, found_passes}
use Rattle.model_checks.proofs.SoundParts.{has_type, declared_as}
use Rattle.model_checks.proofs.SoundWhole.{finds}
use Rattle.meaning_laws.proofs.Known.{has_name, by_known}

one_kind : (a b : Kind) → same_kind a b ≡ true → a ≡ b
one_kind language language e = refl
one_kind language transformation e = absurd (cc)
one_kind language a_tree e = absurd (cc)
one_kind transformation language e = absurd (cc)
one_kind transformation transformation e = refl
one_kind transformation a_tree e = absurd (cc)
one_kind a_tree language e = absurd (cc)
one_kind a_tree transformation e = absurd (cc)
one_kind a_tree a_tree e = refl

-- what is said of an operand of the kind that is taken
pub through : (wanted : Kind) (o : Option Kind) (said : Option (List ℕ)) → o ≡ Some wanted → if_kind wanted o said ≡ said
through wanted o said e = ap (λ k. if_kind wanted k said) e ∙ by wanted
  where
    by : (k : Kind) → if_kind k (Some k) said ≡ said
    by language = refl
    by transformation = refl
    by a_tree = refl

module _ (items : List Item) where
  abbrev pub IsTypedAs : Kind → X → Type 0
  IsTypedAs language x = (type : List ℕ) × (type_of items x ≡ Some type) × (output_of items x ≡ None)
  IsTypedAs transformation x = (type into : List ℕ) × (type_of items x ≡ Some type) × (output_of items x ≡ Some into)
  IsTypedAs a_tree x = Unit {0}

  pub record IsKinded (x : X) : Type 0 where
    pub kind : Kind
    pub is : kind_of items x ≡ Some kind
    pub typed : IsTypedAs kind x

  -- an expression that isn't of another kind is of the kind that is needed
  pub kind_needed : (before : List Item) (wanted : Kind) (type : Option (List ℕ)) (x : X) → IsKinded x → is_empty (needs_be items before type wanted x) ≡ true → (kind_of items x ≡ Some wanted) × IsTypedAs wanted x
  kind_needed before wanted type x k e =
      let other = passed (is_other_kind wanted (kind_of items x)) WrongKind (place_of_x x) (empty_first (needs_kind items before wanted x) (needs_type items before type wanted x) e) in
      let same = one_kind k.kind wanted (not_false (same_kind k.kind wanted) (ap (is_other_kind wanted) (sym k.is) ∙ other)) in
      (k.is ∙ ap (λ kind. Some kind) same, subst (λ kind. IsTypedAs kind x) same k.typed)

  -- ---- names

  pub named_kind : (n : Name) (item : Item) → find_item items n.text ≡ Some item → kind_of items (named n) ≡ own_kind item.body
  named_kind n item found = ap (option_and_then (λ i. own_kind i.body)) found

  pub named_type : (n : Name) (item : Item) → find_item items n.text ≡ Some item → type_of items (named n) ≡ option_and_then (declared_type items) (own_type item.body)
  named_type n item found = ap (λ o. option_and_then (declared_type items) (option_and_then (λ i. own_type i.body) o)) found

  pub named_output : (n : Name) (item : Item) → find_item items n.text ≡ Some item → output_of items (named n) ≡ option_and_then (declared_type items) (own_output item.body)
  named_output n item found = ap (λ o. option_and_then (declared_type items) (option_and_then (λ i. own_output i.body) o)) found

  module _ (whole : IsSound items) where
    no_name : (n : Name) (item : Item) → find_item items n.text ≡ Some item → own_name item.body ≡ None → ⊥
    no_name n item found none =
        let own = has_name n.text (own_name item.body) (found_passes (declares n.text) items item found) in
        let bad : None ≡ Some own.0 = sym none ∙ own.1 in
        cc

    pub from_declared : (item : Item) (at : StandsIn items item) (d : DefItem) → item.body ≡ def d → declared_type items d.from ≡ Some d.from.text
    from_declared item at d is =
        let failing : is_empty (body_failures items at.before (def d)) ≡ true = subst (λ b. is_empty (body_failures items at.before b) ≡ true) is (whole.each item at) in
        declared_as items d.from (has_type items d.from (empty_first (type_name_failures items d.from) _ (empty_second (name_again items at.before d.name) _ failing)))

    pub into_declared : (item : Item) (at : StandsIn items item) (d : DefItem) (into : Name) → item.body ≡ def d → d.into ≡ Some into → declared_type items into ≡ Some into.text
    into_declared item at d into is e =
        let failing : is_empty (body_failures items at.before (def d)) ≡ true = subst (λ b. is_empty (body_failures items at.before b) ≡ true) is (whole.each item at) in
        let own = empty_first (into_failures items at.before d.into) _ (empty_second (type_name_failures items d.from) _ (empty_second (name_again items at.before d.name) _ failing)) in
        declared_as items into (has_type items into (subst (λ o. is_empty (into_failures items at.before o) ≡ true) e own))

    def_kinded : (n : Name) (item : Item) (d : DefItem) (into : Option Name) → find_item items n.text ≡ Some item → item.body ≡ def d → d.into ≡ into → IsKinded (named n)
    def_kinded n item d None found is e =
        let at = (finds items).item n.text item found in
        record {
          kind = language;
          is = named_kind n item found ∙ (ap own_kind is ∙ ap (λ o. Some (defined_kind o)) e);
          typed = (
            d.from.text,
            named_type n item found ∙ (ap (λ b. option_and_then (declared_type items) (own_type b)) is ∙ from_declared item at d is),
            named_output n item found ∙ (ap (λ b. option_and_then (declared_type items) (own_output b)) is ∙ ap (option_and_then (declared_type items)) e),
          );
        }
    def_kinded n item d (Some into) found is e =
        let at = (finds items).item n.text item found in
        record {
          kind = transformation;
          is = named_kind n item found ∙ (ap own_kind is ∙ ap (λ o. Some (defined_kind o)) e);
          typed = (
            d.from.text,
            into.text,
            named_type n item found ∙ (ap (λ b. option_and_then (declared_type items) (own_type b)) is ∙ from_declared item at d is),
            named_output n item found ∙ (ap (λ b. option_and_then (declared_type items) (own_output b)) is ∙ (ap (option_and_then (declared_type items)) e ∙ into_declared item at d into is e)),
          );
        }

    name_kinded : (n : Name) (item : Item) (body : Body) → find_item items n.text ≡ Some item → item.body ≡ body → IsKinded (named n)
    name_kinded n item (sorts t) found is = absurd (no_name n item found (ap own_name is))
    name_kinded n item (assertion a) found is = absurd (no_name n item found (ap own_name is))
    name_kinded n item (tree t) found is = record { kind = a_tree; is = named_kind n item found ∙ ap own_kind is; typed = tt }
    name_kinded n item (def d) found is = def_kinded n item d d.into found is refl
    name_kinded n item (lang l) found is =
        let s = whole.langs item l ((finds items).item n.text item found) is in
        record {
          kind = language;
          is = named_kind n item found ∙ ap own_kind is;
          typed = (
            l.of.text,
            named_type n item found ∙ (ap (λ b. option_and_then (declared_type items) (own_type b)) is ∙ declared_as items l.of (record { type = s.type; found = s.found; named = s.named })),
            named_output n item found ∙ ap (λ b. option_and_then (declared_type items) (own_output b)) is,
          );
        }
    name_kinded n item (trans t) found is =
        let s = whole.transformations item t ((finds items).item n.text item found) is in
        record {
          kind = transformation;
          is = named_kind n item found ∙ ap own_kind is;
          typed = (
            t.from.text,
            t.into.text,
            named_type n item found ∙ (ap (λ b. option_and_then (declared_type items) (own_type b)) is ∙ declared_as items t.from (record { type = s.from; found = s.found_from; named = s.named_from })),
            named_output n item found ∙ (ap (λ b. option_and_then (declared_type items) (own_output b)) is ∙ declared_as items t.into (record { type = s.into; found = s.found_into; named = s.named_into })),
          );
        }

    -- ---- expressions

    abbrev IsOperand : Kind → X → Type 0
    IsOperand kind x = (kind_of items x ≡ Some kind) × IsTypedAs kind x

    one_operand : (before : List Item) (around : ℕ) (expected : Option (List ℕ)) (op : Op1) (place : Pos) (x : X) → is_empty (x_failures items before around expected (one op place x)) ≡ true → IsKinded x → IsOperand (taken_by_one op) x
    one_operand before around expected op place x e k =
        kind_needed before (taken_by_one op) None x k (empty_second (x_failures items before (suc around) None x) (needs_be items before None (taken_by_one op) x)
        (empty_second (nesting_failures around place) (x_failures items before (suc around) None x ++ needs_be items before None (taken_by_one op) x) e))

    by_one : (op : Op1) (place : Pos) (x : X) → IsOperand (taken_by_one op) x → IsKinded (one op place x)
    by_one Complement place x (kind, typed) = record { kind = language; is = refl; typed = (typed.0, through language (kind_of items x) (type_of items x) kind ∙ typed.1, refl) }
    by_one Minimize place x (kind, typed) = record { kind = language; is = refl; typed = (typed.0, through language (kind_of items x) (type_of items x) kind ∙ typed.1, refl) }
    by_one Domain place x (kind, typed) = record { kind = language; is = refl; typed = (typed.0, through transformation (kind_of items x) (type_of items x) kind ∙ typed.2, refl) }
    by_one GetWitness place x operand = record { kind = a_tree; is = refl; typed = tt }

    by_two : (op : Op2) (place : Pos) (x y : X) → IsOperand (taken_first op) x → IsOperand (taken_second op) y → IsKinded (two op place x y)
    by_two Intersect place x y (kind, typed) second = record { kind = language; is = refl; typed = (typed.0, through language (kind_of items x) (type_of items x) kind ∙ typed.1, refl) }
    by_two Union place x y (kind, typed) second = record { kind = language; is = refl; typed = (typed.0, through language (kind_of items x) (type_of items x) kind ∙ typed.1, refl) }
    by_two Difference place x y (kind, typed) second = record { kind = language; is = refl; typed = (typed.0, through language (kind_of items x) (type_of items x) kind ∙ typed.1, refl) }
    by_two PreImage place x y (kind, typed) second = record { kind = language; is = refl; typed = (typed.0, through transformation (kind_of items x) (type_of items x) kind ∙ typed.2, refl) }
    by_two Compose place x y (kind, typed) (other, others) = record {
      kind = transformation;
      is = refl;
      typed = (typed.0, others.1, through transformation (kind_of items x) (type_of items x) kind ∙ typed.2, through transformation (kind_of items y) (output_of items y) other ∙ others.3);
    }
    by_two Restrict place x y (kind, typed) second = record {
      kind = transformation;
      is = refl;
      typed = (typed.0, typed.1, through transformation (kind_of items x) (type_of items x) kind ∙ typed.2, through transformation (kind_of items x) (output_of items x) kind ∙ typed.3);
    }
    by_two RestrictOut place x y (kind, typed) second = record {
      kind = transformation;
      is = refl;
      typed = (typed.0, typed.1, through transformation (kind_of items x) (type_of items x) kind ∙ typed.2, through transformation (kind_of items x) (output_of items x) kind ∙ typed.3);
    }
    by_two Apply place x y first second = record { kind = a_tree; is = refl; typed = tt }

    -- an expression in which nothing fails has a kind, and types
    pub kinded : (before : List Item) (around : ℕ) (expected : Option (List ℕ)) (x : X) → is_empty (x_failures items before around expected x) ≡ true → IsKinded x
    kinded before around expected (named n) e = let f = by_known items whole before n (find_item items n.text) refl e in name_kinded n f.item f.item.body f.found refl
    kinded before around expected (one op place x) e =
        let inner = empty_second (nesting_failures around place) (x_failures items before (suc around) None x ++ needs_be items before None (taken_by_one op) x) e in
        let k = kinded before (suc around) None x (empty_first (x_failures items before (suc around) None x) (needs_be items before None (taken_by_one op) x) inner) in
        by_one op place x (one_operand before around expected op place x e k)
    kinded before around expected (two op place x y) e =
        let fx = x_failures items before (suc around) None x in
        let bx = needs_be items before None (taken_first op) x in
        let fy = x_failures items before (suc around) (expected_as (taken_second op) (wanted_second items before op x)) y in
        let by = needs_be items before (wanted_second items before op x) (taken_second op) y in
        let inner = empty_second (nesting_failures around place) (fx ++ (bx ++ (fy ++ by))) e in
        let rest = empty_second fx (bx ++ (fy ++ by)) inner in
        let last = empty_second bx (fy ++ by) rest in
        let kx = kinded before (suc around) None x (empty_first fx (bx ++ (fy ++ by)) inner) in
        let ky = kinded before (suc around) (expected_as (taken_second op) (wanted_second items before op x)) y (empty_first fy by last) in
        by_two op place x y (kind_needed before (taken_first op) None x kx (empty_first bx (fy ++ by) rest))
        (kind_needed before (taken_second op) (wanted_second items before op x) y ky (empty_second fy by last))
    kinded before around expected (literal name labels xs) e = record { kind = a_tree; is = refl; typed = tt }
