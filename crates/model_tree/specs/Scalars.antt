-- Trees whose texts are lists of Unicode scalars, as all texts are that UTF-8 spells.
use Rattle.std.specs.Prelude.{Bool, true, ◌&&◌}
use Rattle.std.specs.List.{list_all}
use Rattle.std.specs.Str.{all_scalars}
use Rattle.model_tree.specs.Label.{Field, whole, truth, text, Label, row, pair}
use Rattle.model_tree.specs.Tree.{node, Trees, no_trees, tree, LabelTree}

abbrev pub is_of_scalars : Field → Bool
is_of_scalars (whole n) = true
is_of_scalars (truth b) = true
is_of_scalars (text t) = all_scalars t

abbrev pub label_has_scalars : Label → Bool
label_has_scalars (row values) = list_all is_of_scalars values
label_has_scalars (pair left right) = label_has_scalars left && label_has_scalars right

abbrev mutual
  pub has_scalars : LabelTree → Bool
  has_scalars (node c l ts) = label_has_scalars l && have_scalars ts

  pub have_scalars : Trees Label → Bool
  have_scalars no_trees = true
  have_scalars (tree t ts) = has_scalars t && have_scalars ts
