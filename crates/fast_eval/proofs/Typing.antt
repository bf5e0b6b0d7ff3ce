-- The operands of an expression of a well-formed program are of the kinds and types that its operations take.
use Rattle.std.proofs.Common.{◌≡◌, inl, inr, ℕ, suc, true, false, ◌&&◌, List, ◌++◌, Option, Some, None, refl, sym, subst, ◌∙◌}
use Rattle.std.proofs.lemmas.Bool.{and_parts}
use Rattle.fast_fault.specs.declared.place.Pos.{Pos}
use Rattle.model_grammar.specs.declared.Op1.{Op1}
use Rattle.model_grammar.specs.declared.Op1.TheVariants.{Complement, Minimize, Domain, GetWitness}
use Rattle.model_grammar.specs.declared.Op2.{Op2}
use Rattle.model_grammar.specs.declared.Op2.TheVariants.{Intersect, Union, Difference, PreImage, Compose, Restrict, RestrictOut, Apply}
use Rattle.model_grammar.specs.Syntax.{X, named, one, two, literal, Item}
use Rattle.model_names.specs.Kinds.{Kind, language, transformation, taken_by_one, taken_first, taken_second, if_kind, kind_of, type_of, output_of}
use Rattle.model_checks.specs.Failures.{is_empty}
use Rattle.model_checks.specs.Rules.{differ}
use Rattle.model_checks.specs.Expressions.{nesting_failures, expected_as, wanted_second, needs_be, x_failures}
use Rattle.model_checks.specs.Sound.{IsSound}
use Rattle.model_checks.proofs.Soundness.{empty_first, empty_second}
use Rattle.meaning_laws.specs.Shapes.{has_automaton_shape, gives_automaton_one, gives_automaton_two}
use Rattle.model_run.specs.Parts.{IsOn, IsFrom}
use Rattle.meaning_laws.proofs.Kinded.{IsTypedAs, kinded, kind_needed, through}
use Rattle.meaning_laws.proofs.Valued.{same_types}
use Rattle.meaning_laws.proofs.Fitting.{Operands, operands}
use Rattle.model_run.specs.Items.{AreComposable}
use Rattle.fast_eval.specs.Forms.{IsMadeOn, IsMadeFrom}

module _ (items : List Item) (whole : IsSound items) where
  -- the second operand has the type that is wanted
  of_wanted : (before : List Item) (op : Op2) (x y : X) (type own : List ℕ) → wanted_second items before op x ≡ Some type → type_of items y ≡ Some own → differ (wanted_second items before op x) (type_of items y) ≡ false → type_of items y ≡ Some type
  of_wanted before op x y type own wanted is told = same_types items (wanted_second items before op x) (type_of items y) type own wanted is told ∙ wanted

  -- the operand of an operation on one
  record IsOnly (before : List Item) (around : ℕ) (op : Op1) (x : X) : Type 0 where
    fine : is_empty (x_failures items before (suc around) None x) ≡ true
    own : (kind_of items x ≡ Some (taken_by_one op)) × IsTypedAs items (taken_by_one op) x

  only : (before : List Item) (around : ℕ) (expected : Option (List ℕ)) (op : Op1) (place : Pos) (x : X) → is_empty (x_failures items before around expected (one op place x)) ≡ true → IsOnly before around op x
  only before around expected op place x e =
      let fx = x_failures items before (suc around) None x in
      let bx = needs_be items before None (taken_by_one op) x in
      let inner = empty_second (nesting_failures around place) (fx ++ bx) e in
      let fine = empty_first fx bx inner in
      record { fine = fine; own = kind_needed items before (taken_by_one op) None x (kinded items whole before (suc around) None x fine) (empty_second fx bx inner) }

  -- what is said of an operation is said of its first operand
  said : (kind : Kind) (x : X) (o : Option (List ℕ)) (type : List ℕ) → kind_of items x ≡ Some kind → if_kind kind (kind_of items x) o ≡ Some type → o ≡ Some type
  said kind x o type is e = sym (through kind (kind_of items x) o is) ∙ e

  said_back : (kind : Kind) (x : X) (o : Option (List ℕ)) (type : List ℕ) → kind_of items x ≡ Some kind → o ≡ Some type → if_kind kind (kind_of items x) o ≡ Some type
  said_back kind x o type is e = through kind (kind_of items x) o is ∙ e

  form_one : (op : Op1) (place : Pos) (x : X) → has_automaton_shape (one op place x) ≡ true → has_automaton_shape x ≡ true
  form_one op place x form = (and_parts (gives_automaton_one op) (has_automaton_shape x) form).1

  forms_two : (op : Op2) (place : Pos) (x y : X) → has_automaton_shape (two op place x y) ≡ true → (has_automaton_shape x ≡ true) × (has_automaton_shape y ≡ true)
  forms_two op place x y form = and_parts (has_automaton_shape x) (has_automaton_shape y) (and_parts (gives_automaton_two op) (has_automaton_shape x && has_automaton_shape y) form).1

  -- two languages on the type of the first
  both_on : (before : List Item) (around : ℕ) (op : Op2) (x y : X) (type : List ℕ) → taken_first op ≡ language → taken_second op ≡ language → wanted_second items before op x ≡ if_kind language (kind_of items x) (type_of items x)
      → Operands items whole before around op x y → if_kind language (kind_of items x) (type_of items x) ≡ Some type → IsOn items x type × IsOn items y type
  both_on before around op x y type first second wanted s on =
      let own_x = subst (λ k. (kind_of items x ≡ Some k) × IsTypedAs items k x) first s.first in
      let own_y = subst (λ k. (kind_of items y ≡ Some k) × IsTypedAs items k y) second s.second in
      ((own_x.0, said language x (type_of items x) type own_x.0 on), (own_y.0, of_wanted before op x y type own_y.1.0 (wanted ∙ on) own_y.1.1 s.same))

  mutual
    -- an expression of a form that can be evaluated is made of languages and transformations, where it is a language and what it composes can be composed
    pub made_of_form : (before : List Item) (around : ℕ) (expected : Option (List ℕ)) (x : X) (type : List ℕ) → has_automaton_shape x ≡ true → AreComposable items x → is_empty (x_failures items before around expected x) ≡ true → IsOn items x type → IsMadeOn items type x
    made_of_form before around expected (named n) type form can e on = on
    made_of_form before around expected (literal name labels xs) type form can e on = absurd (cc)
    made_of_form before around expected (one Complement place x) type form can e on =
        let o = only before around expected Complement place x e in
        made_of_form before (suc around) None x type (form_one Complement place x form) can o.fine (o.own.0, said language x (type_of items x) type o.own.0 on.1)
    made_of_form before around expected (one Minimize place x) type form can e on =
        let o = only before around expected Minimize place x e in
        made_of_form before (suc around) None x type (form_one Minimize place x form) can o.fine (o.own.0, said language x (type_of items x) type o.own.0 on.1)
    made_of_form before around expected (one Domain place f) type form can e on =
        let o = only before around expected Domain place f e in
        let (from, into, begins, ends) = o.own.1 in
        (into, made_from_form before (suc around) None f type into (form_one Domain place f form) can o.fine (o.own.0, said transformation f (type_of items f) type o.own.0 on.1, ends))
    made_of_form before around expected (one GetWitness place x) type form can e on = absurd (cc)
    made_of_form before around expected (two Intersect place x y) type form can e on =
        let forms = forms_two Intersect place x y form in
        let s = operands items whole before around expected Intersect place x y e in
        let both = both_on before around Intersect x y type refl refl refl s on.1 in
        (made_of_form before (suc around) None x type forms.0 (λ u v at. can u v (inl at)) s.fine_first both.0, made_of_form before (suc around) (expected_as language (wanted_second items before Intersect x)) y type forms.1 (λ u v at. can u v (inr at)) s.fine_second both.1)
    made_of_form before around expected (two Union place x y) type form can e on =
        let forms = forms_two Union place x y form in
        let s = operands items whole before around expected Union place x y e in
        let both = both_on before around Union x y type refl refl refl s on.1 in
        (made_of_form before (suc around) None x type forms.0 (λ u v at. can u v (inl at)) s.fine_first both.0, made_of_form before (suc around) (expected_as language (wanted_second items before Union x)) y type forms.1 (λ u v at. can u v (inr at)) s.fine_second both.1)
    made_of_form before around expected (two Difference place x y) type form can e on =
        let forms = forms_two Difference place x y form in
        let s = operands items whole before around expected Difference place x y e in
        let both = both_on before around Difference x y type refl refl refl s on.1 in
        (made_of_form before (suc around) None x type forms.0 (λ u v at. can u v (inl at)) s.fine_first both.0, made_of_form before (suc around) (expected_as language (wanted_second items before Difference x)) y type forms.1 (λ u v at. can u v (inr at)) s.fine_second both.1)
    made_of_form before around expected (two PreImage place f y) type form can e on =
        let forms = forms_two PreImage place f y form in
        let s = operands items whole before around expected PreImage place f y e in
        let (from, into, begins, ends) = s.first.1 in
        let type_y = of_wanted before PreImage f y into s.second.1.0 (said_back transformation f (output_of items f) into s.first.0 ends) s.second.1.1 s.same in (
          into,
          made_from_form before (suc around) None f type into forms.0 (λ u v at. can u v (inl at)) s.fine_first (s.first.0, said transformation f (type_of items f) type s.first.0 on.1, ends),
          made_of_form before (suc around) (expected_as language (wanted_second items before PreImage f)) y into forms.1 (λ u v at. can u v (inr at)) s.fine_second (s.second.0, type_y),
        )
    made_of_form before around expected (two Compose place x y) type form can e on = let no : Some transformation ≡ Some language = on.0 in absurd (cc)
    made_of_form before around expected (two Restrict place x y) type form can e on = let no : Some transformation ≡ Some language = on.0 in absurd (cc)
    made_of_form before around expected (two RestrictOut place x y) type form can e on = let no : Some transformation ≡ Some language = on.0 in absurd (cc)
    made_of_form before around expected (two Apply place x y) type form can e on = absurd (cc)

    -- the same where it is a transformation
    pub made_from_form : (before : List Item) (around : ℕ) (expected : Option (List ℕ)) (x : X) (from into : List ℕ) → has_automaton_shape x ≡ true → AreComposable items x → is_empty (x_failures items before around expected x) ≡ true → IsFrom items x from into → IsMadeFrom items from into x
    made_from_form before around expected (named n) from into form can e goes = goes
    made_from_form before around expected (literal name labels xs) from into form can e goes = absurd (cc)
    made_from_form before around expected (one Complement place x) from into form can e goes = let no : Some language ≡ Some transformation = goes.0 in absurd (cc)
    made_from_form before around expected (one Minimize place x) from into form can e goes = let no : Some language ≡ Some transformation = goes.0 in absurd (cc)
    made_from_form before around expected (one Domain place x) from into form can e goes = let no : Some language ≡ Some transformation = goes.0 in absurd (cc)
    made_from_form before around expected (one GetWitness place x) from into form can e goes = absurd (cc)
    made_from_form before around expected (two Intersect place x y) from into form can e goes = let no : Some language ≡ Some transformation = goes.0 in absurd (cc)
    made_from_form before around expected (two Union place x y) from into form can e goes = let no : Some language ≡ Some transformation = goes.0 in absurd (cc)
    made_from_form before around expected (two Difference place x y) from into form can e goes = let no : Some language ≡ Some transformation = goes.0 in absurd (cc)
    made_from_form before around expected (two PreImage place x y) from into form can e goes = let no : Some language ≡ Some transformation = goes.0 in absurd (cc)
    made_from_form before around expected (two Compose place x y) from into form can e goes =
        let forms = forms_two Compose place x y form in
        let s = operands items whole before around expected Compose place x y e in
        let (start, middle, begins, ends) = s.first.1 in
        let type_y = of_wanted before Compose x y middle s.second.1.0 (said_back transformation x (output_of items x) middle s.first.0 ends) s.second.1.2 s.same in (
          middle,
          made_from_form before (suc around) None x from middle forms.0 (λ u v at. can u v (inr (inl at))) s.fine_first (s.first.0, said transformation x (type_of items x) from s.first.0 goes.1, ends),
          made_from_form before (suc around) (expected_as transformation (wanted_second items before Compose x)) y middle into forms.1 (λ u v at. can u v (inr (inr at))) s.fine_second (s.second.0, type_y, said transformation y (output_of items y) into s.second.0 goes.2),
          can x y (inl (refl, refl)),
        )
    made_from_form before around expected (two Restrict place f y) from into form can e goes =
        let forms = forms_two Restrict place f y form in
        let s = operands items whole before around expected Restrict place f y e in
        let begins = said transformation f (type_of items f) from s.first.0 goes.1 in
        let type_y = of_wanted before Restrict f y from s.second.1.0 goes.1 s.second.1.1 s.same in (
          made_from_form before (suc around) None f from into forms.0 (λ u v at. can u v (inl at)) s.fine_first (s.first.0, begins, said transformation f (output_of items f) into s.first.0 goes.2),
          made_of_form before (suc around) (expected_as language (wanted_second items before Restrict f)) y from forms.1 (λ u v at. can u v (inr at)) s.fine_second (s.second.0, type_y),
        )
    made_from_form before around expected (two RestrictOut place f y) from into form can e goes =
        let forms = forms_two RestrictOut place f y form in
        let s = operands items whole before around expected RestrictOut place f y e in
        let begins = said transformation f (type_of items f) from s.first.0 goes.1 in
        let type_y = of_wanted before RestrictOut f y into s.second.1.0 goes.2 s.second.1.1 s.same in (
          made_from_form before (suc around) None f from into forms.0 (λ u v at. can u v (inl at)) s.fine_first (s.first.0, begins, said transformation f (output_of items f) into s.first.0 goes.2),
          made_of_form before (suc around) (expected_as language (wanted_second items before RestrictOut f)) y into forms.1 (λ u v at. can u v (inr at)) s.fine_second (s.second.0, type_y),
        )
    made_from_form before around expected (two Apply place x y) from into form can e goes = absurd (cc)
