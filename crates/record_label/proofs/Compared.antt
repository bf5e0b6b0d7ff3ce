-- What a comparison of whole numbers says by the forms of its sides.
use Rattle.std.proofs.Common.{◌≡◌, ◌++◌, ◌⊎◌, ◌∙◌, List, Result, Ok, Err, MatchResult, Some, true, cond, ap, sym}
use Rattle.model_tree.specs.Signature.{PlainField}
use Rattle.model_tree.specs.Formula.{Formula}
use Rattle.model_grammar.specs.declared.Rel.{Rel}
use Rattle.model_grammar.specs.Syntax.{Expr}
use Rattle.model_form.specs.Form.{Form}
use Rattle.model_guard.specs.Forms.{form_of, forms_in, HasOutside}
use Rattle.lin_form.specs.declared.stop.FormStop.{FormStop}
use Rattle.lin_form.specs.Stops.{StopsAt}
use Rattle.label_core.specs.Formula.{plain_formula}
use Rattle.label_core.specs.declared.formula.Formula as code
use Rattle.record_label.specs.Rows.{RowAtom}
use Rattle.record_label.specs.Follows.{UnlessMemory}
use Rattle.record_label.specs.Guards.{SaysAlone, compared_as, compared_by_forms, compared_in, comparison_of, is_numeric}
use Rattle.record_label.proofs.FormFacts.{given, either_stops}
use Rattle.record_label.proofs.Follows.{unless_memory}

module _ (fields : List PlainField) (rel : Rel) (a b : Expr) (r s : Result Form FormStop) (left : MatchResult r (λ f. f ≡ form_of fields a) (StopsAt (HasOutside (forms_in fields a)))) (right : MatchResult s (λ f. f ≡ form_of fields b) (StopsAt (HasOutside (forms_in fields b)))) where
  pub numbers_say : is_numeric fields a ≡ true → (f g : Form) → r ≡ Ok f → s ≡ Ok g → (made : Result (code.Formula RowAtom) FormStop) → UnlessMemory made (λ m. plain_formula m ≡ compared_by_forms rel f g) → SaysAlone fields rel a b (Some made)
  numbers_say numeric f g first second made is =
      let one : f ≡ form_of fields a = given r (λ x. x ≡ form_of fields a) (HasOutside (forms_in fields a)) f first left in
      let other : g ≡ form_of fields b = given s (λ x. x ≡ form_of fields b) (HasOutside (forms_in fields b)) g second right in
      unless_memory made (λ m. plain_formula m ≡ compared_by_forms rel f g) (λ m. (p q : Formula RowAtom) → plain_formula m ≡ compared_in fields rel a b p q) (HasOutside (forms_in fields a ++ forms_in fields b))
      (λ m e p q. e ∙ (λ i. compared_by_forms rel (one i) (other i)) ∙ sym (ap (λ w. cond w (compared_by_forms rel (form_of fields a) (form_of fields b)) (compared_as rel (comparison_of fields a b) p q)) numeric)) is

  pub numbers_stop : (e : FormStop) → (r ≡ Err e) ⊎ (s ≡ Err e) → SaysAlone fields rel a b (Some (Err e))
  numbers_stop e is = either_stops r s (λ f. f ≡ form_of fields a) (λ f. f ≡ form_of fields b) (forms_in fields a) (forms_in fields b) e left right is
