-- Expressions that have no forms are in range.
use Rattle.std.proofs.Common.{◌≡◌, List, [], ◌∷◌, ◌++◌, arith}
use Rattle.model_tree.specs.Signature.{PlainField}
use Rattle.model_form.specs.Form.{Form}
use Rattle.model_grammar.specs.Syntax.{Expr}
use Rattle.model_guard.specs.Forms.{forms_in}
use Rattle.record_label.specs.Maps.{forms_in_each}
use Rattle.record_label.specs.Parts.{AreWithin}

-- where there are no forms, none is out of range
pub none_within : (forms : List Form) → forms ≡ [] → AreWithin forms
none_within [] e n o = let at = o.1 in absurd (omega (arith, at.1))
none_within (f ∷ forms) e n o = absurd cc

pub no_forms : (fields : List PlainField) (e : Expr) (es : List Expr) → forms_in fields e ≡ [] → forms_in_each fields es ≡ [] → forms_in_each fields (e ∷ es) ≡ []
no_forms fields e es none rest = λ i. none i ++ rest i

pub ruleset on_no_forms = (none_within, no_forms)
