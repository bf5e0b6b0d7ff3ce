-- Formulas that are made in the same way of equal atoms.
use Rattle.std.specs.Prelude.{Bool, true, false, ◌&&◌}
use Rattle.model_tree.specs.Formula.{Formula, yes, no, atom, negation, all_of, some_of, Formulas, no_formulas, formula}

module _ {A : Type 0} (eq : A → A → Bool) where
  abbrev mutual
    pub same_formula : Formula A → Formula A → Bool
    same_formula yes yes = true
    same_formula no no = true
    same_formula (atom a) (atom b) = eq a b
    same_formula (negation f) (negation g) = same_formula f g
    same_formula (all_of fs) (all_of gs) = same_formulas fs gs
    same_formula (some_of fs) (some_of gs) = same_formulas fs gs
    same_formula f g = false

    pub same_formulas : Formulas A → Formulas A → Bool
    same_formulas no_formulas no_formulas = true
    same_formulas (formula f fs) (formula g gs) = same_formula f g && same_formulas fs gs
    same_formulas fs gs = false
