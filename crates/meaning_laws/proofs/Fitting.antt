-- The parts of a transformation of a well-formed program fit together.
use Rattle.std.proofs.Common.{◌≡◌, ℕ, suc, true, false, List, ◌++◌, Option, Some, None, sym, ap, ◌∙◌, subst}
use Rattle.fast_fault.specs.declared.place.Pos.{Pos}
use Rattle.model_program.specs.Syntax.{Name}
use Rattle.model_grammar.specs.declared.Op1.{Op1}
use Rattle.model_grammar.specs.declared.Op2.{Op2}
use Rattle.model_grammar.specs.declared.Op1.TheVariants.{Complement, Minimize, Domain, GetWitness}
use Rattle.model_grammar.specs.declared.Op2.TheVariants.{Intersect, Union, Difference, PreImage, Compose, Restrict, RestrictOut, Apply}
use Rattle.model_grammar.specs.Syntax.{X, named, one, two, literal, Item}
use Rattle.model_names.specs.Kinds.{language, transformation, a_tree, taken_first, taken_second, defined_kind, declared_type, kind_of, type_of, output_of}
use Rattle.model_checks.specs.Failures.{is_empty}
use Rattle.model_checks.specs.Rules.{differ}
use Rattle.model_checks.specs.Expressions.{nesting_failures, expected_as, wanted_second, output_as, needs_be, x_failures}
use Rattle.model_checks.specs.Sound.{IsSound}
use Rattle.model_checks.proofs.Soundness.{empty_first, empty_second}
use Rattle.model_meaning.specs.Types as types
use Rattle.model_meaning.specs.Reached.{definition_of}
use Rattle.model_meaning.specs.Meaning.{input_type, output_type, signature_named}
use Rattle.model_meaning.specs.Laws.{FitTogether, AreRulesTyped}
use Rattle.model_meaning.proofs.Named.{input_type_of_name, output_type_of_name}
use Rattle.meaning_laws.proofs.Kinded.{IsTypedAs, kinded, kind_needed, through}
use Rattle.meaning_laws.proofs.Valued.{same_types, not_other, checked, the_definition, has_declared}
use Rattle.meaning_laws.proofs.Rules.{terms_typed_of}

module _ (items : List Item) (whole : IsSound items) where
  -- where it is a transformation
  abbrev Fits : X → Type 0
  Fits x = kind_of items x ≡ Some transformation → FitTogether items x

  no_language : Some language ≡ Some transformation → ⊥
  no_language e = cc

  no_tree : Some a_tree ≡ Some transformation → ⊥
  no_tree e = cc

  -- nothing fails in the operands of an operation, and they are of the kinds that are taken and of the types that are wanted
  pub record Operands (before : List Item) (around : ℕ) (op : Op2) (x y : X) : Type 0 where
    pub fine_first : is_empty (x_failures items before (suc around) None x) ≡ true
    pub fine_second : is_empty (x_failures items before (suc around) (expected_as (taken_second op) (wanted_second items before op x)) y) ≡ true
    pub first : (kind_of items x ≡ Some (taken_first op)) × IsTypedAs items (taken_first op) x
    pub second : (kind_of items y ≡ Some (taken_second op)) × IsTypedAs items (taken_second op) y
    pub same : differ (wanted_second items before op x) (type_of items y) ≡ false

  pub operands : (before : List Item) (around : ℕ) (expected : Option (List ℕ)) (op : Op2) (place : Pos) (x y : X) → is_empty (x_failures items before around expected (two op place x y)) ≡ true → Operands before around op x y
  operands before around expected op place x y e =
      let fx = x_failures items before (suc around) None x in
      let bx = needs_be items before None (taken_first op) x in
      let fy = x_failures items before (suc around) (expected_as (taken_second op) (wanted_second items before op x)) y in
      let by = needs_be items before (wanted_second items before op x) (taken_second op) y in
      let inner = empty_second (nesting_failures around place) (fx ++ (bx ++ (fy ++ by))) e in
      let rest = empty_second fx (bx ++ (fy ++ by)) inner in
      let last = empty_second bx (fy ++ by) rest in
      let one = empty_first fx (bx ++ (fy ++ by)) inner in
      let other = empty_first fy by last in
      let own = kind_needed items before (taken_second op) (wanted_second items before op x) y (kinded items whole before (suc around) (expected_as (taken_second op) (wanted_second items before op x)) y other) (empty_second fy by last) in
      record {
        fine_first = one;
        fine_second = other;
        first = kind_needed items before (taken_first op) None x (kinded items whole before (suc around) None x one) (empty_first bx (fy ++ by) rest);
        second = own;
        same = not_other items whole before (taken_second op) (wanted_second items before op x) y own.0 (empty_second fy by last);
      }

  fit_one : (op : Op1) (place : Pos) (x : X) → Fits (one op place x)
  fit_one Complement place x kind = absurd (no_language kind)
  fit_one Minimize place x kind = absurd (no_language kind)
  fit_one Domain place x kind = absurd (no_language kind)
  fit_one GetWitness place x kind = absurd (no_tree kind)

  fit_two : (before : List Item) (around : ℕ) (op : Op2) (place : Pos) (x y : X) → Operands before around op x y → Fits x → Fits y → Fits (two op place x y)
  fit_two before around Intersect place x y o f g kind = absurd (no_language kind)
  fit_two before around Union place x y o f g kind = absurd (no_language kind)
  fit_two before around Difference place x y o f g kind = absurd (no_language kind)
  fit_two before around PreImage place x y o f g kind = absurd (no_language kind)
  fit_two before around Apply place x y o f g kind = absurd (no_tree kind)
  fit_two before around Restrict place x y o f g kind = f o.first.0
  fit_two before around RestrictOut place x y o f g kind = f o.first.0
  fit_two before around Compose place x y o f g kind =
      let wanted : output_as items before transformation x ≡ output_of items x = through transformation (kind_of items x) (output_of items x) o.first.0 in
      let told : differ (output_of items x) (type_of items y) ≡ false = subst (λ t. differ t (type_of items y) ≡ false) wanted o.same in
      let meet = same_types items (output_of items x) (type_of items y) _ _ o.first.1.3 o.second.1.2 told in
      (ap (signature_named items) (sym meet), f o.first.0, g o.second.0)

  pub fits : (before : List Item) (around : ℕ) (expected : Option (List ℕ)) (x : X) → is_empty (x_failures items before around expected x) ≡ true → Fits x
  fits before around expected (named n) e = λ kind. kind
  fits before around expected (one op place x) e = fit_one op place x
  fits before around expected (two op place x y) e =
      let o = operands before around expected op place x y e in
      fit_two before around op place x y o (fits before (suc around) None x o.fine_first)
      (fits before (suc around) (expected_as (taken_second op) (wanted_second items before op x)) y o.fine_second)
  fits before around expected (literal name labels xs) e = λ kind. absurd (no_tree kind)

  -- the expression of the definition of a transformation goes between the types of its name
  defined_fits : (n : Name) (x : X) → kind_of items (named n) ≡ Some transformation → definition_of items n.text ≡ Some x
      → FitTogether items x × (input_type items x ≡ types.input_of items n.text) × (output_type items x ≡ types.output_of items n.text)
  defined_fits n x kind e =
      let d = the_definition items whole n.text x e in
      let c = checked items whole d.item d.at d.own d.is in
      let has = has_declared items whole n x e in
      let fit = fits d.at.before 0 (expected_as (defined_kind d.own.into) (declared_type items d.own.from)) d.own.value c.inside in (
        subst Fits d.value fit (has.kind ∙ kind),
        ap (signature_named items) has.type ∙ input_type_of_name items n,
        ap (signature_named items) has.output ∙ output_type_of_name items n,
      )

  pub rules_typed : AreRulesTyped items
  rules_typed = record { terms = terms_typed_of items whole; definitions = defined_fits }
