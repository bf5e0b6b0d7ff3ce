-- What a sum that is being gathered is in the definitions.
use Rattle.std.specs.Prelude.{ℕ, List, [], ◌∷◌, Option, Some, None}
use Rattle.model_form.specs.Form.{Remainders, no_remainders, remainder}
use Rattle.model_form.specs.Sums as model
use Rattle.lin_form.specs.declared.sum.Like.{Like}
use Rattle.lin_form.specs.declared.sum.Sum.{Sum}
use Rattle.lin_form.specs.declared.sum.Signed.{Signed}

abbrev pub plain_likes : List Like → Remainders
plain_likes [] = no_remainders
plain_likes (t ∷ ts) = remainder t.coefficient t.inner t.divisor (plain_likes ts)

abbrev pub plain_sum : Sum → model.Sum
plain_sum s = record { constant = s.constant; totals = s.totals; terms = plain_likes s.likes.items }

abbrev pub plain_parts : List Signed → List model.Part
plain_parts [] = []
plain_parts (p ∷ ps) = record { minus = p.minus; added = p.form } ∷ plain_parts ps

-- the place that was found, or the length
abbrev pub found_or : Option ℕ → ℕ → ℕ
found_or None n = n
found_or (Some i) n = i
