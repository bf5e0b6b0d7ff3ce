-- What terms are in the definitions.
use Rattle.std.specs.Prelude.{List, [], ◌∷◌}
use Rattle.model_form.specs.Same.{Item, ordered}
use Rattle.model_form.specs.Form.{Term, Remainders, no_remainders, remainder}
use Rattle.lin_form.specs.declared.form.FieldTerm.{FieldTerm}
use Rattle.lin_form.specs.declared.form.RemTerm.{RemTerm}

abbrev pub plain_fields : List FieldTerm → List Term
plain_fields [] = []
plain_fields (t ∷ ts) = record { field = t.field; coefficient = t.coefficient } ∷ plain_fields ts

abbrev pub plain_remainders : List RemTerm → Remainders
plain_remainders [] = no_remainders
plain_remainders (t ∷ ts) = remainder t.coefficient t.inner t.divisor (plain_remainders ts)

-- the term, with its inner form in order
abbrev pub member : RemTerm → Item
member t = record { coefficient = t.coefficient; inner = ordered t.inner; divisor = t.divisor }
