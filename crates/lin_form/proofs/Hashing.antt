-- The numbers of terms.
use Rattle.std.proofs.Common.{◌≡◌, suc, List, [], ◌∷◌, length, refl, ap}
use Rattle.model_form.specs.Form.{count}
use Rattle.lin_form.specs.declared.form.FieldTerm.{FieldTerm}
use Rattle.lin_form.specs.declared.form.RemTerm.{RemTerm}
use Rattle.lin_form.specs.Terms.{plain_fields, plain_remainders}

pub length-fields : (ts : List FieldTerm) → length (plain_fields ts) ≡ length ts
length-fields [] = refl
length-fields (t ∷ ts) = ap suc (length-fields ts)

pub count-remainders : (ts : List RemTerm) → count (plain_remainders ts) ≡ length ts
count-remainders [] = refl
count-remainders (t ∷ ts) = ap suc (count-remainders ts)
