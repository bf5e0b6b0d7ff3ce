-- A dividend is less high than the form that it stands in, and no less than the form that it has.
use Rattle.std.specs.Prelude.{ℕ, suc, ◌*◌, ◌≤◌, List, [], ◌∷◌}
use Rattle.std.proofs.Common.{arith}
use Rattle.model_form.specs.Form.{Form, height, heights}
use Rattle.lin_form.specs.declared.form.RemTerm.{RemTerm}
use Rattle.lin_form.specs.declared.form.Dividend.TheDeep.{deep-RemTerm}
use Rattle.lin_form.specs.Nest.{nest, bare}
use Rattle.lin_form.specs.Terms.{plain_remainders}
use denote.Param.Weighed.{most}

pub form_falls : (ts : List RemTerm) → most deep-RemTerm ts ≤ 2 * suc (heights (plain_remainders ts))
form_falls [] = omega arith
form_falls (t ∷ ts) = omega (arith, form_falls ts)

pub base_falls : (f : Form) (ks : List ℕ) → height f ≤ height (nest f ks)
base_falls f [] = omega arith
base_falls f (k ∷ ks) = let later = base_falls (bare f k) ks in omega arith
