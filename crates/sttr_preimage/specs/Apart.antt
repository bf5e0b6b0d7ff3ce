-- Guards that no label has together.
use Rattle.std.specs.Prelude.{◌≡◌, ◌&&◌, Bool, false}
use Rattle.model_tree.specs.Label.{Label}
use Rattle.model_tree.specs.Formula.{Formula, formula_holds}

-- of the labels of D
abbrev pub AreApart : {A : Type 0} → (A → Label → Bool) → (Label → Type 0) → Formula A → Formula A → Type 0
AreApart holds D f g = (l : Label) → D l → (formula_holds (λ a. holds a l) f && formula_holds (λ a. holds a l) g) ≡ false
