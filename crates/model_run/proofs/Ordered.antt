-- No tree stands before itself.
use Rattle.std.proofs.Common.{◌≡◌, ℕ, Bool, true, false, List, [], ◌∷◌, refl, sym, ap, ◌∙◌}
use Rattle.std.specs.declared.cmp.Ordering.{Ordering}
use Rattle.std.specs.declared.cmp.Ordering.TheVariants.{Less, Equal}
use Rattle.std.specs.Ordering.{ordering_then, nat_cmp, int_cmp, bool_cmp}
use Rattle.std.specs.Cmp.Lexicographic.{slice_cmp}
use Rattle.std.proofs.lemmas.Cmp.{tied_itself, nat_cmp_total, int_cmp_total}
use Rattle.model_tree.specs.Label.{Field, whole, truth, text, Label, row, pair}
use Rattle.model_tree.specs.Tree.{node, Trees, no_trees, tree, LabelTree}
use Rattle.model_tree.specs.TreeOrder.{trees_cmp}
use Rattle.model_sta.proofs.TreeOrder.{equal_both}
use Rattle.model_run.specs.Order.{field_cmp, label_cmp, label_tree_cmp}

module _ {A : Type 0} (R : A → A → Ordering) (same : (x : A) → R x x ≡ Equal) where
  tied_list : (xs : List A) → slice_cmp R xs xs ≡ Equal
  tied_list [] = refl
  tied_list (x ∷ xs) = rw (same x) (tied_list xs)

tied_truth : (b : Bool) → bool_cmp b b ≡ Equal
tied_truth true = refl
tied_truth false = refl

tied_field : (f : Field) → field_cmp f f ≡ Equal
tied_field (whole n) = tied_itself int_cmp_total n
tied_field (truth b) = tied_truth b
tied_field (text t) = tied_list nat_cmp (tied_itself nat_cmp_total) t

tied_label : (l : Label) → label_cmp l l ≡ Equal
tied_label (row values) = tied_list field_cmp tied_field values
tied_label (pair l m) = equal_both (label_cmp l l) (label_cmp m m) (tied_label l) (tied_label m)

mutual
  tied_tree : (t : LabelTree) → label_tree_cmp t t ≡ Equal
  tied_tree (node c l ts) = equal_both (ordering_then (nat_cmp c c) (label_cmp l l)) (trees_cmp label_cmp ts ts) (equal_both (nat_cmp c c) (label_cmp l l) (tied_itself nat_cmp_total c) (tied_label l)) (tied_trees ts)

  tied_trees : (ts : Trees Label) → trees_cmp label_cmp ts ts ≡ Equal
  tied_trees no_trees = refl
  tied_trees (tree t ts) = equal_both (label_tree_cmp t t) (trees_cmp label_cmp ts ts) (tied_tree t) (tied_trees ts)

pub before_none : (t u : LabelTree) → label_tree_cmp t u ≡ Less → ¬ (t ≡ u)
before_none t u less same = let tied : label_tree_cmp t u ≡ Equal = ap (λ v. label_tree_cmp t v) (sym same) ∙ tied_tree t in cc
