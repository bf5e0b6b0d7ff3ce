-- The rows of signs of formulas.
use Rattle.std.specs.Prelude.{Bool, List, map, All}
use Rattle.model_tree.specs.Label.{Label}
use Rattle.model_tree.specs.Formula.{formula_holds, EveryAtom, formulas_of}
use Rattle.label_core.specs.Formula.{plain_formula, atoms_in_all}
use Rattle.label_core.specs.declared.formula.Formula.{Formula}

module _ {A : Type 0} where
  -- the atoms of the formulas, from the left
  abbrev pub atoms_in_each : List (Formula A) → List A
  atoms_in_each formulas = atoms_in_all (formulas_of (map plain_formula formulas))

  -- each atom of each formula fits
  abbrev pub FormulasFit : (A → Type 0) → List (Formula A) → Type 0
  FormulasFit fits formulas = All (λ f. EveryAtom fits (plain_formula f)) formulas

  -- the truth value of each formula at the label
  abbrev pub signs_at : (A → Label → Bool) → List (Formula A) → Label → List Bool
  signs_at holds formulas l = map (λ f. formula_holds (λ a. holds a l) (plain_formula f)) formulas
