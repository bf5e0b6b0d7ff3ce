-- What literals say of a label.
use Rattle.std.specs.Prelude.{◌≡◌, Bool, List, map, All}
use Rattle.model_tree.specs.Label.{Label}
use Rattle.label_core.specs.declared.theory.Lit.{Lit}

-- each atom has its sign at the label
abbrev pub SatisfiesAll : {A : Type 0} → (A → Label → Bool) → List (Lit A) → Label → Type 0
SatisfiesAll holds literals l = All (λ x. holds x.atom l ≡ x.sign) literals

abbrev pub LitsFit : {A : Type 0} → (A → Type 0) → List (Lit A) → Type 0
LitsFit fits literals = All (λ x. fits x.atom) literals

abbrev pub atoms_of : {A : Type 0} → List (Lit A) → List A
atoms_of literals = map (λ x. x.atom) literals
