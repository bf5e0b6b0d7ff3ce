-- What the definitions have in common.
use Rattle.std.specs.Prelude.{◌≡◌, ℕ, ℤ, ◌*ℤ◌, List, true}
use Rattle.std.specs.Cmp.{IsEquivalence}
use Rattle.model_tree.specs.Limits.{most_fields}
use Rattle.model_form.specs.Form.{Form, form, Term, Remainders, remainder, value, modulo}
use Rattle.model_form.specs.Same.{same_form}
use Rattle.model_form.specs.Sums.{Part, sum_form, product_form, remainder_form, subst_form}
use Rattle.model_form.specs.Simpler.{simpler_form}
use Rattle.model_form.specs.Over.{IsOver, IsDivided}
use Rattle.model_form.specs.Meaning.{parts_value, ArePartsLow, AreFormsLow, values_of}

-- equality of forms is an equivalence
abbrev pub SameIsEquivalence : Type 0
SameIsEquivalence = IsEquivalence same_form

-- two remainders that stand side by side may be exchanged
abbrev pub SameInAnyOrder : Type 0
SameInAnyOrder = (c : ℤ) (ts : List Term) (a b : ℤ) (f g : Form) (k m : ℕ) (rs : Remainders)
    → same_form (form c ts (remainder a f k (remainder b g m rs))) (form c ts (remainder b g m (remainder a f k rs))) ≡ true

-- equal forms have one value, whatever the values of the fields
abbrev pub SameHaveOneValue : Type 0
SameHaveOneValue = (f g : Form) (values : List ℤ) → same_form f g ≡ true → value f values ≡ value g values

-- the form of a sum has the value of the sum
abbrev pub ValueOfSum : Type 0
ValueOfSum = (parts : List Part) (values : List ℤ) → ArePartsLow parts → value (sum_form parts) values ≡ parts_value parts values

-- the form of a product by a number has the value of the product
abbrev pub ValueOfProduct : Type 0
ValueOfProduct = (by : ℤ) (f : Form) (values : List ℤ) → value (product_form by f) values ≡ by *ℤ value f values

-- the form of a remainder has the remainder of the form's value
abbrev pub ValueOfRemainder : Type 0
ValueOfRemainder = (f : Form) (k : ℕ) (values : List ℤ) → value (remainder_form f k) values ≡ modulo (value f values) k

-- putting forms for fields gives the form's value at the values of those forms
abbrev pub ValueAfterPutting : Type 0
ValueAfterPutting = (f : Form) (gs : List Form) (values : List ℤ) → AreFormsLow gs → value (subst_form f gs) values ≡ value f (values_of gs values)

-- a form made simpler has the form's value
abbrev pub ValueOfSimpler : Type 0
ValueOfSimpler = (f : Form) (values : List ℤ) → IsOver most_fields f → IsDivided f → value (simpler_form f) values ≡ value f values
