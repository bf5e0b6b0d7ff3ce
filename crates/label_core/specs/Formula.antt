-- The plain formula that a value is.
use Rattle.std.specs.Prelude.{Bool, true, false, List, [], ◌∷◌, ◌++◌, map}
use Rattle.model_tree.specs.Formula.{yes, no, atom, negation, all_of, some_of, formulas_of, Formulas, no_formulas, formula}
use Rattle.model_tree.specs.Formula as plain
use Rattle.label_core.specs.declared.formula.Formula.{Formula, Yes, No, Atom, Not', And', Or', Row_of-Formula, end_of-Formula, more_of-Formula}

module _ {A : Type 0} where
  abbrev mutual
    pub plain_formula : Formula A → plain.Formula A
    plain_formula Yes = yes
    plain_formula No = no
    plain_formula (Atom a) = atom a
    plain_formula (Not' p f) = negation (plain_formula f)
    plain_formula (And' shape fs) = all_of (plain_formulas fs)
    plain_formula (Or' shape fs) = some_of (plain_formulas fs)

    pub plain_formulas : {n : _} → Row_of-Formula A n → plain.Formulas A
    plain_formulas end_of-Formula = no_formulas
    plain_formulas (more_of-Formula f fs) = formula (plain_formula f) (plain_formulas fs)

-- the formulas joined: each of them is to hold, or one
abbrev pub joined : {A : Type 0} → Bool → List (Formula A) → plain.Formula A
joined true fs = all_of (formulas_of (map plain_formula fs))
joined false fs = some_of (formulas_of (map plain_formula fs))

-- the atoms of a formula, from the left
module _ {A : Type 0} where
  abbrev mutual
    pub atoms_in : plain.Formula A → List A
    atoms_in yes = []
    atoms_in no = []
    atoms_in (atom a) = a ∷ []
    atoms_in (negation f) = atoms_in f
    atoms_in (all_of fs) = atoms_in_all fs
    atoms_in (some_of fs) = atoms_in_all fs

    pub atoms_in_all : plain.Formulas A → List A
    atoms_in_all no_formulas = []
    atoms_in_all (formula f fs) = atoms_in f ++ atoms_in_all fs
