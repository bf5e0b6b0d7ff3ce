-- Guards made of guards.
use Rattle.std.proofs.Common.{◌≡◌, ◌<◌, ◌≤◌, ◌+◌, ℕ, length, take, Bool, true, false, not, ◌&&◌, ◌||◌, cond, List, [], ◌∷◌, ◌++◌, map, get_or, Contains, Option, Some, None, refl, ap, sym, ◌∙◌, subst, arith}
use Rattle.std.proofs.lemmas.Bool.{and_parts}
use Rattle.std.proofs.Math.IntN.{ℤ}
use Rattle.std.specs.Prelude.{int_lt, int_le}
use Rattle.std.specs.Ordering.{int_eq}
use Rattle.std.proofs.lemmas.Int.{ints}
use Rattle.std.proofs.lemmas.List.Elements.{Contains-append_left, Contains-append_right}
use Rattle.std.proofs.lemmas.List.{take_more, map-append}
use Rattle.fast_fault.specs.declared.place.Pos.{Pos}
use Rattle.model_tree.specs.Limits.{most_fields}
use Rattle.model_tree.specs.Label.{Field, whole, truth, text}
use Rattle.model_tree.specs.Signature.{PlainField, sort_of, wholes, truths, texts}
use Rattle.model_tree.specs.Formula.{Formula, yes, no, atom, negation, all_of, some_of, Formulas, no_formulas, formula, formulas_of, EveryAtom, EveryAtomOfAll}
use Rattle.model_grammar.specs.Syntax as syntax
use Rattle.model_grammar.specs.declared.Chain.TheVariants.{Disjunction, Conjunction, Sum, Product}
use Rattle.model_grammar.specs.declared.Rel.{Rel}
use Rattle.model_grammar.specs.declared.Rel.TheVariants.{Equal, NotEqual, Less, AtMost, Greater, AtLeast}
use Rattle.model_label.specs.Fields.{has_field, number_at}
use Rattle.model_label.specs.Meaning.{value_of, as_whole, as_truth, is_true, all_true, some_true, same_value, same_truth}
use Rattle.model_label.specs.Tests.{is_equality, is_text}
use Rattle.model_form.specs.Form.{value}
use Rattle.model_form.specs.Over.{IsOver}
use Rattle.model_chain.specs.Literals.{related, at_most}
use Rattle.model_guard.specs.Forms.{wholes_in, form_of, is_whole}
use Rattle.model_guard.specs.Guards.{is_guard, are_guards}
use Rattle.model_guard.proofs.Values.{form_value, form_over, whole_sort, guard_sort}
use Rattle.label_core.specs.declared.pair.PairAtom.TheVariants.{Left, Right}
use Rattle.flat_label.specs.declared.texts.TextAtom.{TextAtom}
use Rattle.flat_label.specs.Bools.{truth_at_label}
use Rattle.flat_label.specs.Texts.{side_text, texts_label, text_at_label, SideFits}
use Rattle.lin_solve.specs.Wholes.{wholes_label, wholes_of}
use Rattle.lin_solve.specs.Equal.{wholes_back}
use Rattle.record_label.specs.Rows.{truths_in, texts_in, RowAtom, RowFits, count_of}
use Rattle.model_guard.specs.Compares.{comparison}
use Rattle.record_label.specs.Guards.{compare_of, is_numeric, side_of, written_in, written_in_all, written_in_both, comparison_of, compared_by_forms, compared_by, pair_of, agreement_of, compared_as, formula_in, formulas_of_parts, IsGuard, IsGuardOf, IsEqualityOf}
use Rattle.record_label.proofs.FieldFacts.{truth_field, text_field, number_low, truth_no_text, truth_no_whole, text_no_whole}
use Rattle.fast_syntax.specs.Plain.{plain_expr}
use Rattle.fast_syntax.specs.declared.expressions.Expr.{Expr}
use Rattle.label_core.specs.Formula.{plain_formula}
use Rattle.label_core.specs.declared.formula.Formula as code
use Rattle.record_label.specs.Parts.{unmarked}

module _ {A : Type 0} (P Q : A → Type 0) (weaker : (a : A) → P a → Q a) where
  mutual
    every_weaker : (f : Formula A) → EveryAtom P f → EveryAtom Q f
    every_weaker yes h = tt
    every_weaker no h = tt
    every_weaker (atom a) h = weaker a h
    every_weaker (negation f) h = every_weaker f h
    every_weaker (all_of fs) h = each_weaker fs h
    every_weaker (some_of fs) h = each_weaker fs h

    each_weaker : (fs : Formulas A) → EveryAtomOfAll P fs → EveryAtomOfAll Q fs
    each_weaker no_formulas h = tt
    each_weaker (formula f fs) h = (every_weaker f h.0, each_weaker fs h.1)

more_left : (xs ys : List RowAtom) (f : Formula RowAtom) → EveryAtom (Contains xs) f → EveryAtom (Contains (xs ++ ys)) f
more_left xs ys f h = every_weaker (Contains xs) (Contains (xs ++ ys)) (Contains-append_left xs ys) f h

more_right : (xs ys : List RowAtom) (f : Formula RowAtom) → EveryAtom (Contains ys) f → EveryAtom (Contains (xs ++ ys)) f
more_right xs ys f h = every_weaker (Contains ys) (Contains (xs ++ ys)) (Contains-append_right xs ys) f h

only : {X : Type 0} (x : X) → Contains (x ∷ []) x
only x = (0, omega arith, refl)

pub truth_of_sort : (v : Field) → sort_of v ≡ truths → v ≡ truth (as_truth v)
truth_of_sort (whole n) e = cc
truth_of_sort (truth b) e = refl
truth_of_sort (text t) e = cc

agree : (x y : Bool) → ((x && (y && true)) || (not (x || (y || false)) || false)) ≡ same_truth x y
agree true true = refl
agree true false = refl
agree false true = refl
agree false false = refl

pub whole_of_sort : (v : Field) → sort_of v ≡ wholes → v ≡ whole (as_whole v)
whole_of_sort (whole n) e = refl
whole_of_sort (truth b) e = cc
whole_of_sort (text t) e = cc

at_most_is : (x y : ℤ) → cond (int_lt y x) false true ≡ int_le x y
at_most_is x y = grind (arith, ints)

-- a comparison whose first side isn't numeric asks for an equality
equality_only : {n : Bool} (w v q : Bool) → (w ≡ true → n ≡ true) → n ≡ false → ((w && v) || q) ≡ true → q ≡ true
equality_only true v q numeric other e = let both : true ≡ false = sym (numeric refl) ∙ other in cc
equality_only false v q numeric other e = e

not_numeric : {n : Bool} → n ≡ true → (b : Bool) → (b ≡ true → n ≡ false) → b ≡ false
not_numeric e true h = let both : true ≡ false = sym e ∙ h refl in cc
not_numeric e false h = refl

wholes_only : (w q g h t u : Bool) → g ≡ false → t ≡ false → (w || (q && ((g && h) || (t && u)))) ≡ true → w ≡ true
wholes_only true q g h t u other other' e = refl
wholes_only false q true h t u other other' e = cc
wholes_only false q false h true u other other' e = cc
wholes_only false true false h false u other other' e = cc
wholes_only false false false h false u other other' e = cc

guards_only : (g h t u : Bool) → t ≡ false → ((g && h) || (t && u)) ≡ true → (g ≡ true) × (h ≡ true)
guards_only true true t u other e = (refl, refl)
guards_only true false true u other e = cc
guards_only true false false u other e = cc
guards_only false h true u other e = cc
guards_only false h false u other e = cc

module _ (fields : List PlainField) where
  pub field_guard : (p : Pos) (name : List ℕ) (n : ℕ) → n ≡ number_at fields truths name → has_field fields truths name ≡ true → IsGuardOf fields (syntax.field p name) (atom (Right (Left (record { field = n }))))
  field_guard p name n is has = record {
    holds = λ values sorts. truth_at_label n (truths_in values) ∙ ap (λ k. get_or (truths_in values) k false) is ∙ ap as_truth (sym (truth_field fields values name sorts has));
    atoms = subst (λ k. Contains {X = RowAtom} (Right (Left (record { field = number_at fields truths name })) ∷ []) (Right (Left (record { field = k })))) (sym is) (only (Right (Left (record { field = number_at fields truths name }))));
    fit = subst (λ k. k < count_of truths (map (λ f. f.sort) fields)) (sym is) (number_low fields truths name has);
  }

  -- the text of a side
  pub text_value : (values : List Field) (e : syntax.Expr) → map sort_of values ≡ map (λ f. f.sort) fields → is_text fields e ≡ true → value_of fields values e ≡ text (side_text (side_of fields e) (texts_label (texts_in values)))
  text_value values (syntax.field p name) sorts h = text_field fields values name sorts h ∙ ap text (sym (text_at_label (number_at fields texts name) (texts_in values)))
  text_value values (syntax.number p n) sorts h = cc
  text_value values (syntax.text p t) sorts h = refl
  text_value values (syntax.truth p b) sorts h = cc
  text_value values (syntax.negation p e) sorts h = cc
  text_value values (syntax.compare p rel a b) sorts h = cc
  text_value values (syntax.minus p e) sorts h = cc
  text_value values (syntax.chain kind p parts) sorts h = cc

  pub side_fits : (e : syntax.Expr) → is_text fields e ≡ true → SideFits (count_of texts (map (λ f. f.sort) fields)) (side_of fields e)
  side_fits (syntax.field p name) h = number_low fields texts name h
  side_fits (syntax.number p n) h = tt
  side_fits (syntax.text p t) h = tt
  side_fits (syntax.truth p b) h = tt
  side_fits (syntax.negation p e) h = tt
  side_fits (syntax.compare p rel a b) h = tt
  side_fits (syntax.minus p e) h = tt
  side_fits (syntax.chain kind p parts) h = tt

  guard_no_text : (e : syntax.Expr) → is_guard fields e ≡ true → is_text fields e ≡ false
  guard_no_text (syntax.field p name) h = truth_no_text fields name h
  guard_no_text (syntax.number p n) h = refl
  guard_no_text (syntax.text p t) h = cc
  guard_no_text (syntax.truth p b) h = refl
  guard_no_text (syntax.negation p e) h = refl
  guard_no_text (syntax.compare p rel a b) h = refl
  guard_no_text (syntax.minus p e) h = refl
  guard_no_text (syntax.chain kind p parts) h = refl

  pub whole_numeric : (e : syntax.Expr) → is_whole fields e ≡ true → is_numeric fields e ≡ true
  whole_numeric (syntax.field p name) h = h
  whole_numeric (syntax.number p n) h = refl
  whole_numeric (syntax.text p t) h = cc
  whole_numeric (syntax.truth p b) h = cc
  whole_numeric (syntax.negation p e) h = cc
  whole_numeric (syntax.compare p rel a b) h = cc
  whole_numeric (syntax.minus p e) h = refl
  whole_numeric (syntax.chain Disjunction p parts) h = cc
  whole_numeric (syntax.chain Conjunction p parts) h = cc
  whole_numeric (syntax.chain Sum p parts) h = refl
  whole_numeric (syntax.chain Product p parts) h = refl

  pub guard_not_numeric : (e : syntax.Expr) → is_guard fields e ≡ true → is_numeric fields e ≡ false
  guard_not_numeric (syntax.field p name) h = truth_no_whole fields name h
  guard_not_numeric (syntax.number p n) h = cc
  guard_not_numeric (syntax.text p t) h = cc
  guard_not_numeric (syntax.truth p b) h = refl
  guard_not_numeric (syntax.negation p e) h = refl
  guard_not_numeric (syntax.compare p rel a b) h = refl
  guard_not_numeric (syntax.minus p e) h = cc
  guard_not_numeric (syntax.chain Disjunction p parts) h = refl
  guard_not_numeric (syntax.chain Conjunction p parts) h = refl
  guard_not_numeric (syntax.chain Sum p parts) h = cc
  guard_not_numeric (syntax.chain Product p parts) h = cc

  pub text_not_numeric : (e : syntax.Expr) → is_text fields e ≡ true → is_numeric fields e ≡ false
  text_not_numeric (syntax.field p name) h = text_no_whole fields name h
  text_not_numeric (syntax.number p n) h = cc
  text_not_numeric (syntax.text p t) h = refl
  text_not_numeric (syntax.truth p b) h = cc
  text_not_numeric (syntax.negation p e) h = cc
  text_not_numeric (syntax.compare p rel a b) h = cc
  text_not_numeric (syntax.minus p e) h = cc
  text_not_numeric (syntax.chain kind p parts) h = cc

  module _ (a b : syntax.Expr) where
    -- two texts
    texts_guard : is_text fields a ≡ true → is_text fields b ≡ true → IsEqualityOf fields a b (atom (Right (Right (record { left = side_of fields a; right = side_of fields b }))))
    texts_guard left right = record {
      holds = λ values sorts. λ i. same_value (sym (text_value values a sorts left) i) (sym (text_value values b sorts right) i);
      atoms = subst (λ t. Contains (cond t (Right (Right (record { left = side_of fields a; right = side_of fields b })) ∷ []) (written_in fields a ++ written_in fields b)) (Right (Right (record { left = side_of fields a; right = side_of fields b })))) (sym left) (only (Right (Right (record { left = side_of fields a; right = side_of fields b }))));
      fit = (side_fits a left, side_fits b right);
    }

    -- two tests
    tests_guard : is_guard fields a ≡ true → is_guard fields b ≡ true → (f g : Formula RowAtom) → IsGuardOf fields a f → IsGuardOf fields b g → IsEqualityOf fields a b (agreement_of f g)
    tests_guard left right f g of_a of_b =
        let atoms : EveryAtomOfAll (Contains (written_in fields a ++ written_in fields b)) (pair_of f g) = (more_left (written_in fields a) (written_in fields b) f of_a.atoms, (more_right (written_in fields a) (written_in fields b) g of_b.atoms, tt)) in
        let fit : EveryAtomOfAll (RowFits (map (λ x. x.sort) fields)) (pair_of f g) = (of_a.fit, (of_b.fit, tt)) in record {
          holds = λ values sorts.
              (λ i. (of_a.holds values sorts i && (of_b.holds values sorts i && true)) || (not (of_a.holds values sorts i || (of_b.holds values sorts i || false)) || false))
              ∙ agree (is_true fields values a) (is_true fields values b)
              ∙ (λ i. same_value (sym (truth_of_sort (value_of fields values a) (guard_sort fields values a sorts left)) i) (sym (truth_of_sort (value_of fields values b) (guard_sort fields values b sorts right)) i));
          atoms = subst (λ t. EveryAtom (Contains (cond t (Right (Right (record { left = side_of fields a; right = side_of fields b })) ∷ []) (written_in fields a ++ written_in fields b))) (agreement_of f g)) (sym (guard_no_text a left)) (atoms, (atoms, tt));
          fit = (fit, (fit, tt));
        }

    found_if : (x y : Bool) (z : TextAtom) (found : TextAtom) → cond {A = Option TextAtom} (x && y) (Some z) None ≡ Some found → (x ≡ true) × (y ≡ true) × (z ≡ found)
    found_if true true z found e = (refl, refl, cc)
    found_if true false z found e = cc
    found_if false y z found e = cc

    comparison_guard : (found : TextAtom) → Some found ≡ comparison_of fields a b → IsEqualityOf fields a b (atom (Right (Right found)))
    comparison_guard found e =
        let parts = found_if (is_text fields a) (is_text fields b) (record { left = side_of fields a; right = side_of fields b }) found (sym e) in
        subst (λ z. IsEqualityOf fields a b (atom (Right (Right z)))) parts.2 (texts_guard parts.0 parts.1)

    comparable : (rel : Rel) → is_numeric fields a ≡ false → ((is_whole fields a && is_whole fields b) || (is_equality rel && ((is_guard fields a && is_guard fields b) || (is_text fields a && is_text fields b)))) ≡ true → (is_equality rel ≡ true) × (((is_guard fields a && is_guard fields b) || (is_text fields a && is_text fields b)) ≡ true)
    comparable rel other e =
        and_parts (is_equality rel) ((is_guard fields a && is_guard fields b) || (is_text fields a && is_text fields b)) (equality_only (is_whole fields a) (is_whole fields b) (is_equality rel && ((is_guard fields a && is_guard fields b) || (is_text fields a && is_text fields b))) (whole_numeric a) other e)

    missed_if : (s t x y : Bool) (z : TextAtom) → ((s && t) || (x && y)) ≡ true → cond {A = Option TextAtom} (x && y) (Some z) None ≡ None → (s ≡ true) × (t ≡ true)
    missed_if s t true true z e n = cc
    missed_if true true true false z e n = (refl, refl)
    missed_if true false true false z e n = cc
    missed_if false t true false z e n = cc
    missed_if true true false y z e n = (refl, refl)
    missed_if true false false y z e n = cc
    missed_if false t false y z e n = cc

    -- what a comparison of them asks for
    compared_guard : (p : Pos) (rel : Rel) (f : Formula RowAtom) → is_numeric fields a ≡ false → is_equality rel ≡ true → IsEqualityOf fields a b f → IsGuardOf fields (syntax.compare p rel a b) (compared_by rel f)
    compared_guard p rel f other asks is = subst (λ w. IsGuard fields (λ values. is_true fields values (syntax.compare p rel a b)) (cond w (Left (compare_of (comparison rel (form_of fields a) (form_of fields b))) ∷ []) (written_in_both fields a b)) (compared_by rel f)) (sym other) (by rel asks)
      where
        by : (r : Rel) → is_equality r ≡ true → IsGuard fields (λ values. is_true fields values (syntax.compare p r a b)) (written_in_both fields a b) (compared_by r f)
        by Equal e = is
        by NotEqual e = record { holds = λ values sorts. ap not (is.holds values sorts); atoms = is.atoms; fit = is.fit }
        by Less e = cc
        by AtMost e = cc
        by Greater e = cc
        by AtLeast e = cc

    -- a comparison of two texts
    text_comparison : (p : Pos) (rel : Rel) (found : TextAtom) → is_numeric fields a ≡ false → Some found ≡ comparison_of fields a b → is_guard fields (syntax.compare p rel a b) ≡ true → IsGuardOf fields (syntax.compare p rel a b) (compared_by rel (atom (Right (Right found))))
    text_comparison p rel found other e guard = compared_guard p rel (atom (Right (Right found))) other (comparable rel other guard).0 (comparison_guard found e)

    -- a comparison of two guards
    guard_comparison : (p : Pos) (rel : Rel) (f g : Formula RowAtom) → is_numeric fields a ≡ false → None ≡ comparison_of fields a b → (is_guard fields a ≡ true → IsGuardOf fields a f) → (is_guard fields b ≡ true → IsGuardOf fields b g) → is_guard fields (syntax.compare p rel a b) ≡ true
        → IsGuardOf fields (syntax.compare p rel a b) (compared_by rel (agreement_of f g))
    guard_comparison p rel f g other none of_a of_b guard =
        let asks = comparable rel other guard in
        let guards = missed_if (is_guard fields a) (is_guard fields b) (is_text fields a) (is_text fields b) (record { left = side_of fields a; right = side_of fields b }) asks.1 (sym none) in
        compared_guard p rel (agreement_of f g) other asks.0 (tests_guard guards.0 guards.1 f g (of_a guards.0) (of_b guards.1))

    -- a comparison of two whole numbers
    number_guard : length fields ≤ most_fields → (p : Pos) (rel : Rel) → is_numeric fields a ≡ true → is_whole fields a ≡ true → is_whole fields b ≡ true → IsGuardOf fields (syntax.compare p rel a b) (compared_by_forms rel (form_of fields a) (form_of fields b))
    number_guard few p rel numeric left right = subst (λ w. IsGuard fields (λ values. is_true fields values (syntax.compare p rel a b)) (cond w (Left (compare_of (comparison rel (form_of fields a) (form_of fields b))) ∷ []) (written_in_both fields a b)) (compared_by_forms rel (form_of fields a) (form_of fields b))) (sym numeric) (by rel)
      where
        over_a : IsOver (count_of wholes (map (λ f. f.sort) fields)) (form_of fields a)
        over_a = form_over fields (count_of wholes (map (λ f. f.sort) fields)) (λ name has. number_low fields wholes name has) a

        over_b : IsOver (count_of wholes (map (λ f. f.sort) fields)) (form_of fields b)
        over_b = form_over fields (count_of wholes (map (λ f. f.sort) fields)) (λ name has. number_low fields wholes name has) b

        value_a : (values : List Field) → map sort_of values ≡ map (λ f. f.sort) fields → value (form_of fields a) (wholes_of (wholes_label (wholes_in values))) ≡ as_whole (value_of fields values a)
        value_a values sorts = ap (value (form_of fields a)) (wholes_back (wholes_in values)) ∙ form_value fields values few sorts a left

        value_b : (values : List Field) → map sort_of values ≡ map (λ f. f.sort) fields → value (form_of fields b) (wholes_of (wholes_label (wholes_in values))) ≡ as_whole (value_of fields values b)
        value_b values sorts = ap (value (form_of fields b)) (wholes_back (wholes_in values)) ∙ form_value fields values few sorts b right

        same : (values : List Field) → map sort_of values ≡ map (λ f. f.sort) fields → int_eq (as_whole (value_of fields values a)) (as_whole (value_of fields values b)) ≡ same_value (value_of fields values a) (value_of fields values b)
        same values sorts = λ i. same_value (sym (whole_of_sort (value_of fields values a) (whole_sort fields values a sorts left)) i) (sym (whole_of_sort (value_of fields values b) (whole_sort fields values b sorts right)) i)

        by : (r : Rel) → IsGuard fields (λ values. is_true fields values (syntax.compare p r a b)) (Left (compare_of (comparison r (form_of fields a) (form_of fields b))) ∷ []) (compared_by_forms r (form_of fields a) (form_of fields b))
        by Equal = record { holds = λ values sorts. (λ i. int_eq (value_a values sorts i) (value_b values sorts i)) ∙ same values sorts; atoms = only _; fit = (over_a, over_b) }
        by NotEqual = record { holds = λ values sorts. ap not ((λ i. int_eq (value_a values sorts i) (value_b values sorts i)) ∙ same values sorts); atoms = only _; fit = (over_a, over_b) }
        by Less = record { holds = λ values sorts. λ i. int_lt (value_a values sorts i) (value_b values sorts i); atoms = only _; fit = (over_a, over_b) }
        by AtMost = record { holds = λ values sorts. (λ i. related at_most (value_a values sorts i) (value_b values sorts i)) ∙ at_most_is (as_whole (value_of fields values a)) (as_whole (value_of fields values b)); atoms = only _; fit = (over_a, over_b) }
        by Greater = record { holds = λ values sorts. λ i. int_lt (value_b values sorts i) (value_a values sorts i); atoms = only _; fit = (over_b, over_a) }
        by AtLeast = record { holds = λ values sorts. (λ i. related at_most (value_b values sorts i) (value_a values sorts i)) ∙ at_most_is (as_whole (value_of fields values b)) (as_whole (value_of fields values a)); atoms = only _; fit = (over_b, over_a) }

    -- in a comparison that is a guard both sides are whole numbers, where the first is one
    pub numbers_compared : (p : Pos) (rel : Rel) → is_numeric fields a ≡ true → is_guard fields (syntax.compare p rel a b) ≡ true → (is_whole fields a ≡ true) × (is_whole fields b ≡ true)
    numbers_compared p rel numeric guard =
        and_parts (is_whole fields a) (is_whole fields b) (wholes_only (is_whole fields a && is_whole fields b) (is_equality rel) (is_guard fields a) (is_guard fields b) (is_text fields a) (is_text fields b) (not_numeric numeric (is_guard fields a) (guard_not_numeric a)) (not_numeric numeric (is_text fields a) (text_not_numeric a)) guard)

    -- and guards, where the first is neither a number nor a text
    pub others_compared : (p : Pos) (rel : Rel) → is_numeric fields a ≡ false → is_text fields a ≡ false → is_guard fields (syntax.compare p rel a b) ≡ true → (is_guard fields a ≡ true) × (is_guard fields b ≡ true)
    others_compared p rel other no_text guard = guards_only (is_guard fields a) (is_guard fields b) (is_text fields a) (is_text fields b) no_text (comparable rel other guard).1

    number_comparison : length fields ≤ most_fields → (p : Pos) (rel : Rel) → is_numeric fields a ≡ true → is_guard fields (syntax.compare p rel a b) ≡ true → IsGuardOf fields (syntax.compare p rel a b) (compared_by_forms rel (form_of fields a) (form_of fields b))
    number_comparison few p rel numeric guard = let both = numbers_compared p rel numeric guard in number_guard few p rel numeric both.0 both.1

    compared_is : length fields ≤ most_fields → (p : Pos) (rel : Rel) → is_guard fields (syntax.compare p rel a b) ≡ true → (is_guard fields a ≡ true → IsGuardOf fields a (formula_in fields a)) → (is_guard fields b ≡ true → IsGuardOf fields b (formula_in fields b))
        → IsGuardOf fields (syntax.compare p rel a b) (formula_in fields (syntax.compare p rel a b))
    compared_is few p rel guard of_a of_b = by (is_numeric fields a) refl
      where
        by_text : is_numeric fields a ≡ false → (found : Option TextAtom) → found ≡ comparison_of fields a b → IsGuardOf fields (syntax.compare p rel a b) (compared_as rel found (formula_in fields a) (formula_in fields b))
        by_text other None e = guard_comparison p rel (formula_in fields a) (formula_in fields b) other e of_a of_b guard
        by_text other (Some found) e = text_comparison p rel found other e guard

        by : (n : Bool) → is_numeric fields a ≡ n → IsGuardOf fields (syntax.compare p rel a b) (formula_in fields (syntax.compare p rel a b))
        by true e = subst (λ w. IsGuardOf fields (syntax.compare p rel a b) (cond w (compared_by_forms rel (form_of fields a) (form_of fields b)) (compared_as rel (comparison_of fields a b) (formula_in fields a) (formula_in fields b)))) (sym e) (number_comparison few p rel e guard)
        by false e = subst (λ w. IsGuardOf fields (syntax.compare p rel a b) (cond w (compared_by_forms rel (form_of fields a) (form_of fields b)) (compared_as rel (comparison_of fields a b) (formula_in fields a) (formula_in fields b)))) (sym e) (by_text e (comparison_of fields a b) refl)

  module _ (few : length fields ≤ most_fields) where
    mutual
      -- the formula of a guard is the guard
      pub guard_is : (e : syntax.Expr) → is_guard fields e ≡ true → IsGuardOf fields e (formula_in fields e)
      guard_is (syntax.field p name) h = field_guard p name (number_at fields truths name) refl h
      guard_is (syntax.number p n) h = absurd cc
      guard_is (syntax.text p t) h = absurd cc
      guard_is (syntax.truth p true) h = record { holds = λ values sorts. refl; atoms = tt; fit = tt }
      guard_is (syntax.truth p false) h = record { holds = λ values sorts. refl; atoms = tt; fit = tt }
      guard_is (syntax.negation p e) h = let own = guard_is e h in record { holds = λ values sorts. ap not (own.holds values sorts); atoms = own.atoms; fit = own.fit }
      guard_is (syntax.compare p rel a b) h = compared_is a b few p rel h (guard_is a) (guard_is b)
      guard_is (syntax.minus p e) h = absurd cc
      guard_is (syntax.chain Disjunction p parts) h = some_guard parts h
      guard_is (syntax.chain Conjunction p parts) h = all_guard parts h
      guard_is (syntax.chain Sum p parts) h = absurd cc
      guard_is (syntax.chain Product p parts) h = absurd cc

      all_guard : (ps : syntax.Parts) → are_guards fields ps ≡ true → IsGuard fields (λ values. all_true fields values ps) (written_in_all fields ps) (all_of (formulas_of_parts fields ps))
      all_guard syntax.no_parts tests = record { holds = λ values sorts. refl; atoms = tt; fit = tt }
      all_guard (syntax.part marked e ps) tests =
          let here = and_parts (is_guard fields e) (are_guards fields ps) tests in
          let first = guard_is e here.0 in
          let rest = all_guard ps here.1 in record {
            holds = λ values sorts. λ i. first.holds values sorts i && rest.holds values sorts i;
            atoms = (more_left (written_in fields e) (written_in_all fields ps) (formula_in fields e) first.atoms, more_right (written_in fields e) (written_in_all fields ps) (all_of (formulas_of_parts fields ps)) rest.atoms);
            fit = (first.fit, rest.fit);
          }

      some_guard : (ps : syntax.Parts) → are_guards fields ps ≡ true → IsGuard fields (λ values. some_true fields values ps) (written_in_all fields ps) (some_of (formulas_of_parts fields ps))
      some_guard syntax.no_parts tests = record { holds = λ values sorts. refl; atoms = tt; fit = tt }
      some_guard (syntax.part marked e ps) tests =
          let here = and_parts (is_guard fields e) (are_guards fields ps) tests in
          let first = guard_is e here.0 in
          let rest = some_guard ps here.1 in record {
            holds = λ values sorts. λ i. first.holds values sorts i || rest.holds values sorts i;
            atoms = (more_left (written_in fields e) (written_in_all fields ps) (formula_in fields e) first.atoms, more_right (written_in fields e) (written_in_all fields ps) (some_of (formulas_of_parts fields ps)) rest.atoms);
            fit = (first.fit, rest.fit);
          }

  -- the formulas of operands, in order
  pub operands_in : (es : List syntax.Expr) → formulas_of (map (formula_in fields) es) ≡ formulas_of_parts fields (unmarked es)
  operands_in [] = refl
  operands_in (e ∷ es) = ap (formula (formula_in fields e)) (operands_in es)

  -- one more formula at the end
  pub formulas_more : (es : List Expr) (i : ℕ) (e : Expr) (fs : List (code.Formula RowAtom)) (f : code.Formula RowAtom) → i < length es → e ≡ get_or es i e
      → map plain_formula fs ≡ map (formula_in fields) (map plain_expr (take i es)) → plain_formula f ≡ formula_in fields (plain_expr e) → map plain_formula (fs ++ f ∷ []) ≡ map (formula_in fields) (map plain_expr (take (i + 1) es))
  formulas_more es i e fs f low at are is =
      let front : map plain_expr (take i es) ++ plain_expr e ∷ [] ≡ map plain_expr (take (i + 1) es) = sym (ap (map plain_expr) (take_more es i e low) ∙ map-append plain_expr (take i es) (get_or es i e ∷ []) ∙ ap (λ x. map plain_expr (take i es) ++ plain_expr x ∷ []) (sym at)) in
      map-append plain_formula fs (f ∷ [])
      ∙ (λ j. are j ++ is j ∷ [])
      ∙ sym (map-append (formula_in fields) (map plain_expr (take i es)) (plain_expr e ∷ []))
      ∙ ap (map (formula_in fields)) front
