-- What of a form is hashed: the constant, and how many terms there are.
use Rattle.std.specs.Prelude.{◌≡◌, ℕ, List, ◌++◌, length, IsTrue}
use Rattle.std.specs.Hash as fed
use Rattle.model_form.specs.Form.{Form, form, constant_of, fields_of, remainders_of, count}
use Rattle.model_form.specs.Same.{same_form}
use Rattle.model_form.proofs.Equals.{same_parts, same_remainders_out}

abbrev pub hashed : Form → List (List ℕ)
hashed f = fed.i128 (constant_of f) ++ fed.usize (length (fields_of f)) ++ fed.usize (count (remainders_of f))

-- equal forms are hashed alike
pub same_hashed : (f g : Form) → IsTrue (same_form f g) → hashed f ≡ hashed g
same_hashed (form c ts rs) (form d us qs) e =
    let p = same_parts c d ts us rs qs e in
    λ i. fed.i128 (p.0 i) ++ fed.usize (length (p.1 i)) ++ fed.usize ((same_remainders_out rs qs p.2).0 i)
