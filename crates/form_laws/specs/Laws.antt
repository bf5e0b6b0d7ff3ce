-- What equal forms have in common.
use Rattle.std.specs.Prelude.{◌≡◌, ℕ, ℤ, pos, true, List, slice_index_or}
use Rattle.model_form.specs.Form.{Form}
use Rattle.model_form.specs.Same.{same_form}
use Rattle.model_form.specs.Sums.{number_form, subst_form}
use Rattle.model_form.specs.Ranges.{IsOutside}

-- equal forms at each place; past the end of a list there is the number 0
abbrev pub AreSame : List Form → List Form → Type 0
AreSame gs hs = (i : ℕ) → same_form (slice_index_or gs i (number_form (pos 0))) (slice_index_or hs i (number_form (pos 0))) ≡ true

-- they are equal once equal forms are put for their fields
abbrev pub SameAfterPutting : Type 0
SameAfterPutting = (f g : Form) (gs hs : List Form) → same_form f g ≡ true → AreSame gs hs → same_form (subst_form f gs) (subst_form g hs) ≡ true

-- a number that is outside its range in one is so in the other
abbrev pub OutsideInBoth : Type 0
OutsideInBoth = (f g : Form) (n : ℤ) → same_form f g ≡ true → IsOutside f n → IsOutside g n
