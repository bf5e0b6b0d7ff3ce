-- The label of a literal, and the node above trees.
use Rattle.std.proofs.Common.{◌≡◌, ℕ, true, List, [], ◌∷◌, Some, Contains, map, refl, ap, ap₂, ◌∙◌}
use Rattle.std.proofs.Math.IntN.{ℤ}
use Rattle.std.specs.List.{list_all}
use Rattle.model_tree.specs.Label as model
use Rattle.model_tree.specs.Label.{Field, whole, row}
use Rattle.model_tree.specs.Kept.{is_kept_field}
use Rattle.model_tree.specs.Range.{IsLabelNumber}
use Rattle.model_tree.specs.Signature.{Sort, PlainField}
use Rattle.model_tree.specs.Tree.{Tree, node, trees_of}
use Rattle.model_tree.proofs.Trees.{relabel_all_of_list}
use Rattle.model_grammar.specs.Syntax.{Expr}
use Rattle.model_label.specs.Meaning.{value_of}
use Rattle.fast_tree.specs.Entries.{label_meaning}
use Rattle.fast_tree.specs.declared.label.Label.{Label}
use Rattle.record_label.specs.Maps.{Entry, made_by, EntriesFit, AreEntriesOf}
use Rattle.sta_theory.proofs.Lists.{all_member}
use Rattle.model_checks.proofs.InRange.{constant_out}
use Rattle.tree_values.specs.Trees.{meant}

-- ---- maps

module _ (fields : List PlainField) where
  pub entries_fit : (es : List Expr) (sorts : List Sort) (entries : List Entry) → AreEntriesOf fields es sorts entries → EntriesFit (map (λ x. x.sort) fields) entries
  entries_fit [] sorts [] are = tt
  entries_fit [] sorts (x ∷ entries) are = absurd are
  entries_fit (e ∷ es) [] [] are = absurd are
  entries_fit (e ∷ es) [] (x ∷ entries) are = absurd are
  entries_fit (e ∷ es) (s ∷ sorts) [] are = absurd are
  entries_fit (e ∷ es) (s ∷ sorts) (x ∷ entries) are = (are.0.fit, entries_fit es sorts entries are.1)

-- without fields
pub made_is : (es : List Expr) (sorts : List Sort) (entries : List Entry) → AreEntriesOf [] es sorts entries → map (made_by []) entries ≡ map (value_of [] []) es
made_is [] sorts [] are = refl
made_is [] sorts (x ∷ entries) are = absurd are
made_is (e ∷ es) [] [] are = absurd are
made_is (e ∷ es) [] (x ∷ entries) are = absurd are
made_is (e ∷ es) (s ∷ sorts) [] are = absurd are
made_is (e ∷ es) (s ∷ sorts) (x ∷ entries) are = ap₂ (λ y ys. y ∷ ys) (are.0.makes [] refl) (made_is es sorts entries are.1)

-- ---- ranges

-- a label that is kept has no number outside
pub none_outside : (fields : List Field) (n : ℤ) → list_all is_kept_field fields ≡ true → Contains fields (whole n) → (IsLabelNumber n → ⊥) → ⊥
none_outside fields n kept at out = out (constant_out n (all_member is_kept_field fields (whole n) at kept))

-- ---- nodes

same_number : (m n : ℕ) → Some m ≡ Some n → m ≡ n
same_number m n e = cc

pub above_made : (n k : ℕ) (l : Label) (m : model.Label) (ts : List (Tree Label)) (t : Tree Label) → t ≡ node n l (trees_of ts) → Some n ≡ Some k → label_meaning l ≡ m → meant t ≡ node k m (trees_of (map meant ts))
above_made n k l m ts t is number label = ap meant is ∙ (λ i. node (same_number n k number i) (label i) (relabel_all_of_list label_meaning ts i))
