-- A code for forms: each form is a node whose children are its remainders, with the coefficient and the divisor at the child.
use Rattle.std.specs.Prelude.{◌≡◌, ℕ, ℤ, pos, List, refl}
use Rattle.std.specs.Coded.{Coded, code_by, coded×, coded_ℕ, coded_ℤ, coded_list}
use Rattle.model_tree.specs.Tree.{Tree, node, Trees, no_trees, tree, constructor_of, label_of}
use Rattle.model_tree.specs.TreeCode.{coded_tree}
use Rattle.model_form.specs.Form.{Form, form, Remainders, no_remainders, remainder, Term}

-- the coefficient, the constant, the terms of fields
abbrev Cell : Type 0
Cell = ℤ × (ℤ × List Term)

abbrev mutual
  pub to_tree : Form → ℕ → ℤ → Tree Cell
  to_tree (form c ts rs) k a = node k (a, (c, ts)) (to_trees rs)

  pub to_trees : Remainders → Trees Cell
  to_trees no_remainders = no_trees
  to_trees (remainder a f k rs) = tree (to_tree f k a) (to_trees rs)

abbrev mutual
  pub of_tree : Tree Cell → Form
  of_tree (node k cell ts) = form cell.1.0 cell.1.1 (of_trees ts)

  pub of_trees : Trees Cell → Remainders
  of_trees no_trees = no_remainders
  of_trees (tree t ts) = remainder (label_of t).0 (of_tree t) (constructor_of t) (of_trees ts)

mutual
  pub of_tree-to_tree : (f : Form) (k : ℕ) (a : ℤ) → of_tree (to_tree f k a) ≡ f
  of_tree-to_tree (form c ts rs) k a = λ i. form c ts (of_trees-to_trees rs i)

  pub of_trees-to_trees : (rs : Remainders) → of_trees (to_trees rs) ≡ rs
  of_trees-to_trees no_remainders = refl
  of_trees-to_trees (remainder a f k rs) = first a f k rs (of_tree-to_tree f k a) (of_trees-to_trees rs)

  first : (a : ℤ) (f : Form) (k : ℕ) (rs : Remainders) → of_tree (to_tree f k a) ≡ f → of_trees (to_trees rs) ≡ rs → of_trees (to_trees (remainder a f k rs)) ≡ remainder a f k rs
  first a (form c ts qs) k rs e d = λ i. remainder a (e i) k (d i)

abbrev pub coded_term : Coded Term
coded_term = code_by (ℕ × ℤ) (coded× coded_ℕ coded_ℤ) (λ t. (t.field, t.coefficient)) (λ p. record { field = p.0; coefficient = p.1 }) (λ _. refl)

abbrev pub coded_form : Coded Form
coded_form = code_by (Tree Cell) (coded_tree (coded× coded_ℤ (coded× coded_ℤ (coded_list coded_term)))) (λ f. to_tree f 0 (pos 0)) of_tree (λ f. of_tree-to_tree f 0 (pos 0))
