-- The expression of a definition has the kind and the types that its item declares.
use Rattle.std.proofs.Common.{◌≡◌, ℕ, true, false, List, ◌++◌, Option, Some, None, refl, sym, ap, ◌∙◌, subst}
use Rattle.std.specs.Option.{option_and_then}
use Rattle.fast_fault.specs.declared.code.Code.TheVariants.{WrongType}
use Rattle.model_program.specs.Syntax.{Name}
use Rattle.model_grammar.specs.Syntax.{X, Body, sorts, tree, lang, trans, DefItem, def, assertion, Item}
use Rattle.model_names.specs.Declared.{same_text, find_item}
use Rattle.model_names.specs.Kinds.{Kind, language, transformation, own_kind, own_type, own_output, defined_kind, declared_type, kind_of, type_of, output_of}
use Rattle.model_checks.specs.Failures.{is_empty}
use Rattle.model_checks.specs.Rules.{differ, type_name_failures}
use Rattle.model_checks.specs.Expressions.{expected_as, needs_kind, needs_type, needs_be, output_as, type_as, place_of_x, x_failures, whole_failures}
use Rattle.model_checks.specs.Programs.{name_again, body_failures, into_failures, needs_output}
use Rattle.model_checks.specs.Sound.{IsSound, StandsIn}
use Rattle.model_checks.proofs.Soundness.{empty_first, empty_second, passed, not_false, same_from_test}
use Rattle.model_checks.proofs.SoundWhole.{finds}
use Rattle.model_meaning.specs.Reached.{own_value, definition_of}
use Rattle.meaning_laws.specs.Laws.{HasDeclared}
use Rattle.meaning_laws.proofs.Kinded.{IsTypedAs, kinded, kind_needed, through, named_kind, named_type, named_output, from_declared, into_declared}

module _ (items : List Item) where
  pub same_types : (a b : Option (List ℕ)) (s t : List ℕ) → a ≡ Some s → b ≡ Some t → differ a b ≡ false → b ≡ a
  same_types a b s t e f same =
      let told : differ (Some s) (Some t) ≡ false = subst (λ o. differ (Some s) o ≡ false) f (subst (λ o. differ o b ≡ false) e same) in
      f ∙ (ap (λ n. Some n) (sym (same_from_test s t (not_false (same_text s t) told))) ∙ sym e)

  module _ (whole : IsSound items) where
    -- the expression of a definition has the kind and types that its item declares
    abbrev ValueHas : DefItem → Option Name → Type 0
    ValueHas d into = (kind_of items d.value ≡ Some (defined_kind into)) × (type_of items d.value ≡ declared_type items d.from) × (output_of items d.value ≡ option_and_then (declared_type items) into)

    pub not_other : (before : List Item) (kind : Kind) (type : Option (List ℕ)) (x : X) → kind_of items x ≡ Some kind → is_empty (needs_be items before type kind x) ≡ true → differ type (type_of items x) ≡ false
    not_other before kind type x is e =
        let same = passed (differ type (type_as items before kind x)) WrongType (place_of_x x) (empty_second (needs_kind items before kind x) (needs_type items before type kind x) e) in
        subst (λ o. differ type o ≡ false) (through kind (kind_of items x) (type_of items x) is) same

    value_by : (item : Item) (at : StandsIn items item) (d : DefItem) (into : Option Name) → item.body ≡ def d → d.into ≡ into → kind_of items d.value ≡ Some (defined_kind into) → IsTypedAs items (defined_kind into) d.value
        → is_empty (needs_be items at.before (declared_type items d.from) (defined_kind into) d.value) ≡ true → is_empty (needs_output items at.before into d.value) ≡ true → ValueHas d into
    value_by item at d None body e kind typed be out =
        (kind, same_types (declared_type items d.from) (type_of items d.value) d.from.text typed.0 (from_declared items whole item at d body) typed.1 (not_other at.before language (declared_type items d.from) d.value kind be), typed.2)
    value_by item at d (Some n) body e kind typed be out =
        let told = passed (differ (declared_type items n) (output_as items at.before transformation d.value)) WrongType (place_of_x d.value) out in
        let same = subst (λ o. differ (declared_type items n) o ≡ false) (through transformation (kind_of items d.value) (output_of items d.value) kind) told in (
          kind,
          same_types (declared_type items d.from) (type_of items d.value) d.from.text typed.0 (from_declared items whole item at d body) typed.2 (not_other at.before transformation (declared_type items d.from) d.value kind be),
          same_types (declared_type items n) (output_of items d.value) n.text typed.1 (into_declared items whole item at d n body e) typed.3 same,
        )

    -- what is so of the expression of a definition
    pub record IsCheckedValue (before : List Item) (d : DefItem) : Type 0 where
      pub inside : is_empty (x_failures items before 0 (expected_as (defined_kind d.into) (declared_type items d.from)) d.value) ≡ true
      pub be : is_empty (needs_be items before (declared_type items d.from) (defined_kind d.into) d.value) ≡ true
      pub out : is_empty (needs_output items before d.into d.value) ≡ true

    pub checked : (item : Item) (at : StandsIn items item) (d : DefItem) → item.body ≡ def d → IsCheckedValue at.before d
    checked item at d body =
        let failing : is_empty (body_failures items at.before (def d)) ≡ true = subst (λ b. is_empty (body_failures items at.before b) ≡ true) body (whole.each item at) in
        let value = whole_failures items at.before (declared_type items d.from) (defined_kind d.into) d.value in
        let behind_name = empty_second (name_again items at.before d.name) (type_name_failures items d.from ++ (into_failures items at.before d.into ++ (value ++ needs_output items at.before d.into d.value))) failing in
        let behind_from = empty_second (type_name_failures items d.from) (into_failures items at.before d.into ++ (value ++ needs_output items at.before d.into d.value)) behind_name in
        let behind_into = empty_second (into_failures items at.before d.into) (value ++ needs_output items at.before d.into d.value) behind_from in
        let fine = empty_first value (needs_output items at.before d.into d.value) behind_into in
        record {
          inside = empty_first (x_failures items at.before 0 (expected_as (defined_kind d.into) (declared_type items d.from)) d.value) (needs_be items at.before (declared_type items d.from) (defined_kind d.into) d.value) fine;
          be = empty_second (x_failures items at.before 0 (expected_as (defined_kind d.into) (declared_type items d.from)) d.value) (needs_be items at.before (declared_type items d.from) (defined_kind d.into) d.value) fine;
          out = empty_second value (needs_output items at.before d.into d.value) behind_into;
        }

    pub value_has : (item : Item) (at : StandsIn items item) (d : DefItem) → item.body ≡ def d → ValueHas d d.into
    value_has item at d body =
        let c = checked item at d body in
        let k = kinded items whole at.before 0 (expected_as (defined_kind d.into) (declared_type items d.from)) d.value c.inside in
        let own = kind_needed items at.before (defined_kind d.into) (declared_type items d.from) d.value k c.be in
        value_by item at d d.into body refl own.0 own.1 c.be c.out

    -- the item of a definition, and where it stands
    pub record IsDefinition (n : List ℕ) (x : X) : Type 0 where
      pub item : Item
      pub own : DefItem
      pub found : find_item items n ≡ Some item
      pub is : item.body ≡ def own
      pub value : own.value ≡ x
      pub at : StandsIn items item

    definition_by : (n : List ℕ) (x : X) (item : Item) (body : Body) → find_item items n ≡ Some item → item.body ≡ body → own_value body ≡ Some x → IsDefinition n x
    definition_by n x item (sorts t) found is e = absurd (cc)
    definition_by n x item (tree t) found is e = absurd (cc)
    definition_by n x item (lang l) found is e = absurd (cc)
    definition_by n x item (trans t) found is e = absurd (cc)
    definition_by n x item (def d) found is e = record { item = item; own = d; found = found; is = is; value = cc; at = (finds items).item n item found }
    definition_by n x item (assertion a) found is e = absurd (cc)

    definition_found : (n : List ℕ) (x : X) (o : Option Item) → find_item items n ≡ o → option_and_then (λ item. own_value item.body) o ≡ Some x → IsDefinition n x
    definition_found n x None found e = absurd (cc)
    definition_found n x (Some item) found e = definition_by n x item item.body found refl e

    pub the_definition : (n : List ℕ) (x : X) → definition_of items n ≡ Some x → IsDefinition n x
    the_definition n x e = definition_found n x (find_item items n) refl e

    pub has_declared : (n : Name) (x : X) → definition_of items n.text ≡ Some x → HasDeclared items n x
    has_declared n x e =
        let d = the_definition n.text x e in
        let has = value_has d.item d.at d.own d.is in
        subst (HasDeclared items n) d.value (record {
          kind = has.0 ∙ sym (named_kind items n d.item d.found ∙ ap own_kind d.is);
          type = has.1 ∙ sym (named_type items n d.item d.found ∙ ap (λ b. option_and_then (declared_type items) (own_type b)) d.is);
          output = has.2 ∙ sym (named_output items n d.item d.found ∙ ap (λ b. option_and_then (declared_type items) (own_output b)) d.is);
        })
