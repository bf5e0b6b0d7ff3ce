-- A code for formulas: a formula is a tree whose labels are its atoms.
use Rattle.std.specs.Prelude.{◌≡◌, ℕ, zero, suc, Option, Some, None, refl}
use Rattle.std.specs.Coded.{Coded, code_by, coded_option}
use Rattle.std.proofs.Common.{ap}
use Rattle.model_tree.specs.Tree.{Tree, node, Trees, no_trees, tree}
use Rattle.model_tree.specs.TreeCode.{coded_tree}
use Rattle.model_tree.specs.Formula.{Formula, yes, no, atom, negation, all_of, some_of, Formulas, no_formulas, formula}

module _ {A : Type 0} where
  abbrev mutual
    pub to_tree : Formula A → Tree (Option A)
    to_tree yes = node 0 None no_trees
    to_tree no = node 1 None no_trees
    to_tree (atom a) = node 2 (Some a) no_trees
    to_tree (negation f) = node 3 None (tree (to_tree f) no_trees)
    to_tree (all_of fs) = node 4 None (to_trees fs)
    to_tree (some_of fs) = node 5 None (to_trees fs)

    pub to_trees : Formulas A → Trees (Option A)
    to_trees no_formulas = no_trees
    to_trees (formula f fs) = tree (to_tree f) (to_trees fs)

  abbrev pub first_of : Formulas A → Formula A
  first_of no_formulas = yes
  first_of (formula f fs) = f

  abbrev pub atom_of : Option A → Formula A
  atom_of None = yes
  atom_of (Some a) = atom a

  abbrev pub by_kind : ℕ → Option A → Formulas A → Formula A
  by_kind zero a fs = yes
  by_kind (suc zero) a fs = no
  by_kind (suc (suc zero)) a fs = atom_of a
  by_kind (suc (suc (suc zero))) a fs = negation (first_of fs)
  by_kind (suc (suc (suc (suc zero)))) a fs = all_of fs
  by_kind (suc (suc (suc (suc (suc n))))) a fs = some_of fs

  abbrev mutual
    pub of_tree : Tree (Option A) → Formula A
    of_tree (node kind a ts) = by_kind kind a (of_trees ts)

    pub of_trees : Trees (Option A) → Formulas A
    of_trees no_trees = no_formulas
    of_trees (tree t ts) = formula (of_tree t) (of_trees ts)

  mutual
    pub of_tree-to_tree : (f : Formula A) → of_tree (to_tree f) ≡ f
    of_tree-to_tree yes = refl
    of_tree-to_tree no = refl
    of_tree-to_tree (atom a) = refl
    of_tree-to_tree (negation f) = ap negation (of_tree-to_tree f)
    of_tree-to_tree (all_of fs) = ap all_of (of_trees-to_trees fs)
    of_tree-to_tree (some_of fs) = ap some_of (of_trees-to_trees fs)

    pub of_trees-to_trees : (fs : Formulas A) → of_trees (to_trees fs) ≡ fs
    of_trees-to_trees no_formulas = refl
    of_trees-to_trees (formula f fs) = λ i. formula (of_tree-to_tree f i) (of_trees-to_trees fs i)

  abbrev pub coded_formula : Coded A → Coded (Formula A)
  coded_formula a = code_by (Tree (Option A)) (coded_tree (coded_option a)) to_tree of_tree of_tree-to_tree
