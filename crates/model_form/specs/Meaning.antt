-- What the laws on values take: the value of a list of parts, and forms over at most eight fields.
use Rattle.std.specs.Prelude.{ℤ, pos, ◌+ℤ◌, ◌*ℤ◌, ◌<◌, List, [], ◌∷◌, map}
use Rattle.model_tree.specs.Limits.{most_fields}
use Rattle.model_form.specs.Form.{Form, Term, fields_of, value}
use Rattle.model_form.specs.Sums.{Part, sign}

-- the fields are numbered from 0 to 7
abbrev pub AreLow : List Term → Type 0
AreLow [] = Unit {0}
AreLow (t ∷ ts) = (t.field < most_fields) × AreLow ts

abbrev pub parts_value : List Part → List ℤ → ℤ
parts_value [] values = pos 0
parts_value (p ∷ ps) values = (sign p.minus *ℤ value p.added values) +ℤ parts_value ps values

abbrev pub ArePartsLow : List Part → Type 0
ArePartsLow [] = Unit {0}
ArePartsLow (p ∷ ps) = AreLow (fields_of p.added) × ArePartsLow ps

abbrev pub AreFormsLow : List Form → Type 0
AreFormsLow [] = Unit {0}
AreFormsLow (g ∷ gs) = AreLow (fields_of g) × AreFormsLow gs

-- the value of each form
abbrev pub values_of : List Form → List ℤ → List ℤ
values_of gs values = map (λ g. value g values) gs
