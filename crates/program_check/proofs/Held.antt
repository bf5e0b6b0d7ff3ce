-- Numbers as the code passes them on.
use Rattle.std.proofs.Common.{◌≡◌, sym, ◌∙◌, subst, arith, to_z, of_z}
use Rattle.std.proofs.Math.IntN.{ℤ}
use Rattle.std.specs.Int.{w128}
use Rattle.std.proofs.lemmas.Int.{ints, to_z-of_z}
use Rattle.model_form.specs.Form.{Form, form, constant_of}
use Rattle.model_tree.specs.Range.{IsLabelNumber}
use Rattle.model_form.specs.Ranges.{IsForm}
use Rattle.lin_form.proofs.Evaluating.{fits_128}

of_form : (f : Form) → IsForm f → IsLabelNumber (constant_of f)
of_form (form c ts rs) h = h.0

-- the constant of a form is passed on as it is
pub held : (f : Form) (n : ℤ) → n ≡ constant_of f → IsForm f → to_z w128 (of_z w128 n) ≡ constant_of f
held f n is h = let low : IsLabelNumber n = subst IsLabelNumber (sym is) (of_form f h) in to_z-of_z w128 n (fits_128 n (omega (arith, ints))) ∙ is
