-- What a tree that has a type consists of, and its printed text by its parts.
use Rattle.std.proofs.Common.{◌≡◌, ℕ, ◌<◌, List, [], ◌++◌, length, get_or, refl}
use Rattle.std.specs.Prelude.{codes}
use Rattle.model_tree.specs.Label.{Label}
use Rattle.model_tree.specs.Tree.{Tree, node, constructor_of, label_of, children_of, list_of, trees_of, relabel, relabel_all}
use Rattle.model_tree.specs.TreeCode.{trees_of-list_of}
use Rattle.model_tree.specs.Signature.{PlainSignature, HasType, EachHasType, ranks_of}
use Rattle.model_tree.specs.Printed.{printed_tree, printed_children, printed_label}

module _ {A : Type 0} (f : A → Label) where
  pub typed_constructor : (s : PlainSignature) (t : Tree A) → HasType s (relabel f t) → constructor_of t < length (ranks_of s)
  typed_constructor s (node c l ts) h = h.0

  pub typed_children : (s : PlainSignature) (t : Tree A) → HasType s (relabel f t) → EachHasType s (relabel_all f (trees_of (list_of (children_of t))))
  typed_children s (node c l ts) h = rw (trees_of-list_of ts) h.3

  pub printed_parts : (names : List (List ℕ)) (t : Tree A) → printed_tree names (relabel f t) ≡ codes "(" ++ (get_or names (constructor_of t) [] ++ (codes " [" ++ (printed_label (f (label_of t)) ++ (codes "]" ++ (printed_children names (relabel_all f (trees_of (list_of (children_of t)))) ++ codes ")")))))
  printed_parts names (node c l ts) = rw (trees_of-list_of ts) refl
