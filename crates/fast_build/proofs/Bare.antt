-- What label expressions say and how they are written, with places aside.
use Rattle.std.proofs.Common.{◌≡◌, ◌&&◌, cond, Option, Some, None, List, ◌∷◌, ◌++◌, refl, sym, ap, ◌∙◌}
use Rattle.std.specs.Prelude.{pos, negsuc}
use Rattle.model_tree.specs.Signature.{PlainField}
use Rattle.model_tree.specs.Formula.{formula, negation, all_of, some_of}
use Rattle.model_grammar.specs.declared.Chain.TheVariants.{Disjunction, Conjunction, Sum, Product}
use Rattle.model_grammar.specs.Places.{bare, bare_parts}
use Rattle.model_grammar.specs.Syntax.{Expr, field, number, text, truth, compare, minus, chain, Parts, no_parts, part}
use Rattle.model_grammar.specs.Syntax as syntax
use Rattle.model_label.specs.Tests.{is_text}
use Rattle.model_form.specs.Form.{Form}
use Rattle.model_form.specs.Sums.{number_form, sum_form, product_form, remainder_form}
use Rattle.model_guard.specs.Forms.{form_of, added, multiplied, times, step, divisor_of}
use Rattle.flat_label.specs.declared.texts.TextAtom.{TextAtom}
use Rattle.record_label.specs.Guards.{is_numeric, side_of, comparison_of, compared_by_forms, compared_as, formula_in, formulas_of_parts}
use Rattle.record_label.specs.Written.{marks_of, marks_of_parts}
use Rattle.record_label.specs.declared.written.Mark.TheVariants as mark

divisor_bare : (e : Expr) → divisor_of (bare e) ≡ divisor_of e
divisor_bare (field p name) = refl
divisor_bare (number p (pos n)) = refl
divisor_bare (number p (negsuc n)) = refl
divisor_bare (text p t) = refl
divisor_bare (truth p b) = refl
divisor_bare (syntax.negation p e) = refl
divisor_bare (compare p rel a b) = refl
divisor_bare (minus p e) = refl
divisor_bare (chain kind p parts) = refl

mutual
  -- the pieces of an expression
  marks_bare : (e : Expr) → marks_of (bare e) ≡ marks_of e
  marks_bare (field p name) = refl
  marks_bare (number p n) = refl
  marks_bare (text p t) = refl
  marks_bare (truth p b) = refl
  marks_bare (syntax.negation p e) = ap (λ ms. mark.Not ∷ ms) (marks_bare e)
  marks_bare (compare p rel a b) = λ i. mark.Compare rel ∷ (marks_bare a i ++ marks_bare b i)
  marks_bare (minus p e) = ap (λ ms. mark.Minus ∷ ms) (marks_bare e)
  marks_bare (chain kind p parts) = ap (λ ms. mark.Chain kind ∷ ms) (parts_marks_bare parts)

  parts_marks_bare : (ps : Parts) → marks_of_parts (bare_parts ps) ≡ marks_of_parts ps
  parts_marks_bare no_parts = refl
  parts_marks_bare (part marked e ps) = λ i. mark.Part marked ∷ (marks_bare e i ++ parts_marks_bare ps i)

-- of expressions that are the same with places aside
pub same_marks : (d e : Expr) → bare d ≡ bare e → marks_of d ≡ marks_of e
same_marks d e is = sym (marks_bare d) ∙ ap marks_of is ∙ marks_bare e

module _ (fields : List PlainField) where
  mutual
    -- the form
    form_bare : (e : Expr) → form_of fields (bare e) ≡ form_of fields e
    form_bare (field p name) = refl
    form_bare (number p n) = refl
    form_bare (text p t) = refl
    form_bare (truth p b) = refl
    form_bare (syntax.negation p e) = refl
    form_bare (compare p rel a b) = refl
    form_bare (minus p e) = ap (product_form (negsuc 0)) (form_bare e)
    form_bare (chain Disjunction p parts) = refl
    form_bare (chain Conjunction p parts) = refl
    form_bare (chain Sum p parts) = ap sum_form (added_bare parts)
    form_bare (chain Product p parts) = multiplied_bare (number_form (pos 1)) parts

    added_bare : (ps : Parts) → added fields (bare_parts ps) ≡ added fields ps
    added_bare no_parts = refl
    added_bare (part subtracted e ps) = λ i. record { minus = subtracted; added = form_bare e i } ∷ added_bare ps i

    multiplied_bare : (f : Form) (ps : Parts) → multiplied fields f (bare_parts ps) ≡ multiplied fields f ps
    multiplied_bare f no_parts = refl
    multiplied_bare f (part divides e ps) =
        (λ i. multiplied fields (cond divides (remainder_form f (divisor_bare e i)) (times f (form_bare e i))) (bare_parts ps))
        ∙ multiplied_bare (step f divides e (form_of fields e)) ps

  numeric_bare : (e : Expr) → is_numeric fields (bare e) ≡ is_numeric fields e
  numeric_bare (field p name) = refl
  numeric_bare (number p n) = refl
  numeric_bare (text p t) = refl
  numeric_bare (truth p b) = refl
  numeric_bare (syntax.negation p e) = refl
  numeric_bare (compare p rel a b) = refl
  numeric_bare (minus p e) = refl
  numeric_bare (chain Disjunction p parts) = refl
  numeric_bare (chain Conjunction p parts) = refl
  numeric_bare (chain Sum p parts) = refl
  numeric_bare (chain Product p parts) = refl

  text_bare : (e : Expr) → is_text fields (bare e) ≡ is_text fields e
  text_bare (field p name) = refl
  text_bare (number p n) = refl
  text_bare (text p t) = refl
  text_bare (truth p b) = refl
  text_bare (syntax.negation p e) = refl
  text_bare (compare p rel a b) = refl
  text_bare (minus p e) = refl
  text_bare (chain kind p parts) = refl

  side_bare : (e : Expr) → side_of fields (bare e) ≡ side_of fields e
  side_bare (field p name) = refl
  side_bare (number p n) = refl
  side_bare (text p t) = refl
  side_bare (truth p b) = refl
  side_bare (syntax.negation p e) = refl
  side_bare (compare p rel a b) = refl
  side_bare (minus p e) = refl
  side_bare (chain kind p parts) = refl

  comparison_bare : (a b : Expr) → comparison_of fields (bare a) (bare b) ≡ comparison_of fields a b
  comparison_bare a b = λ i. cond {A = Option TextAtom} (text_bare a i && text_bare b i) (Some (record { left = side_bare a i; right = side_bare b i })) None

  mutual
    -- the formula
    formula_bare : (e : Expr) → formula_in fields (bare e) ≡ formula_in fields e
    formula_bare (field p name) = refl
    formula_bare (number p n) = refl
    formula_bare (text p t) = refl
    formula_bare (truth p b) = refl
    formula_bare (syntax.negation p e) = ap negation (formula_bare e)
    formula_bare (compare p rel a b) =
        λ i. cond (numeric_bare a i) (compared_by_forms rel (form_bare a i) (form_bare b i)) (compared_as rel (comparison_bare a b i) (formula_bare a i) (formula_bare b i))
    formula_bare (minus p e) = refl
    formula_bare (chain Disjunction p parts) = ap some_of (formulas_bare parts)
    formula_bare (chain Conjunction p parts) = ap all_of (formulas_bare parts)
    formula_bare (chain Sum p parts) = refl
    formula_bare (chain Product p parts) = refl

    formulas_bare : (ps : Parts) → formulas_of_parts fields (bare_parts ps) ≡ formulas_of_parts fields ps
    formulas_bare no_parts = refl
    formulas_bare (part marked e ps) = λ i. formula (formula_bare e i) (formulas_bare ps i)

  pub same_forms : (d e : Expr) → bare d ≡ bare e → form_of fields d ≡ form_of fields e
  same_forms d e is = sym (form_bare d) ∙ ap (form_of fields) is ∙ form_bare e

  pub same_formulas : (d e : Expr) → bare d ≡ bare e → formula_in fields d ≡ formula_in fields e
  same_formulas d e is = sym (formula_bare d) ∙ ap (formula_in fields) is ∙ formula_bare e

  pub same_sides : (d e : Expr) → bare d ≡ bare e → side_of fields d ≡ side_of fields e
  same_sides d e is = sym (side_bare d) ∙ ap (side_of fields) is ∙ side_bare e
