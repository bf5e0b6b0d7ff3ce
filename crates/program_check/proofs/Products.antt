-- The form of a product, as the code makes it.
use Rattle.std.proofs.Common.{◌≡◌, Bool, true, false, Option, Some, sym, ap, ◌∙◌}
use Rattle.std.proofs.Math.IntN.{ℤ}
use Rattle.model_form.specs.Form.{Form, constant_of}
use Rattle.model_form.specs.Sums.{product_form}
use Rattle.model_checks.specs.Forms.{product_of}

pub by_factor : (bh gh : Bool) (bf gf : Option Form) (f g : Form) (k : ℤ) → bf ≡ Some f → gf ≡ Some g → gh ≡ false → k ≡ constant_of g → Some (product_form k f) ≡ product_of bh bf gh gf
by_factor bh gh bf gf f g k bf_is gf_is gh_is k_is = ap (λ z. Some (product_form z f)) k_is ∙ sym (λ i. product_of bh (bf_is i) (gh_is i) (gf_is i))

pub by_before : (bh gh : Bool) (bf gf : Option Form) (f g : Form) (k : ℤ) → bf ≡ Some f → gf ≡ Some g → gh ≡ true → bh ≡ false → k ≡ constant_of f → Some (product_form k g) ≡ product_of bh bf gh gf
by_before bh gh bf gf f g k bf_is gf_is gh_is bh_is k_is = ap (λ z. Some (product_form z g)) k_is ∙ sym (λ i. product_of (bh_is i) (bf_is i) (gh_is i) (gf_is i))
