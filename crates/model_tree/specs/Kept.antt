-- Trees that a program may read, keep and print: their whole numbers are in the label range.
use Rattle.std.specs.Prelude.{Bool, true, ◌&&◌}
use Rattle.std.specs.List.{list_all}
use Rattle.model_tree.specs.Label.{Field, whole, truth, text, Label, row, pair}
use Rattle.model_tree.specs.Range.{is_label_number}
use Rattle.model_tree.specs.Tree.{node, Trees, no_trees, tree, LabelTree}

abbrev pub is_kept_field : Field → Bool
is_kept_field (whole n) = is_label_number n
is_kept_field (truth b) = true
is_kept_field (text t) = true

abbrev pub is_kept_label : Label → Bool
is_kept_label (row values) = list_all is_kept_field values
is_kept_label (pair left right) = is_kept_label left && is_kept_label right

abbrev mutual
  pub is_kept : LabelTree → Bool
  is_kept (node c l ts) = is_kept_label l && are_kept ts

  pub are_kept : Trees Label → Bool
  are_kept no_trees = true
  are_kept (tree t ts) = is_kept t && are_kept ts
