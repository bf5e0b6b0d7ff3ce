-- The order in which trees are listed.
use Rattle.std.specs.declared.cmp.Ordering.{Ordering}
use Rattle.std.specs.declared.cmp.Ordering.TheVariants.{Less, Greater}
use Rattle.std.specs.Ordering.{ordering_then, nat_cmp, int_cmp, bool_cmp}
use Rattle.std.specs.Cmp.Lexicographic.{slice_cmp}
use Rattle.model_tree.specs.Label.{Field, whole, truth, text, Label, row, pair}
use Rattle.model_tree.specs.Tree.{LabelTree}
use Rattle.model_tree.specs.TreeOrder.{tree_cmp}

-- Whole numbers stand before truth values, and these before texts; false is before true, and texts compare by their characters.
abbrev pub field_cmp : Field → Field → Ordering
field_cmp (whole m) (whole n) = int_cmp m n
field_cmp (whole m) (truth b) = Less
field_cmp (whole m) (text t) = Less
field_cmp (truth a) (whole n) = Greater
field_cmp (truth a) (truth b) = bool_cmp a b
field_cmp (truth a) (text t) = Less
field_cmp (text s) (whole n) = Greater
field_cmp (text s) (truth b) = Greater
field_cmp (text s) (text t) = slice_cmp nat_cmp s t

-- field by field
abbrev pub label_cmp : Label → Label → Ordering
label_cmp (row fields) (row others) = slice_cmp field_cmp fields others
label_cmp (row fields) (pair l m) = Less
label_cmp (pair l m) (row fields) = Greater
label_cmp (pair l m) (pair k n) = ordering_then (label_cmp l k) (label_cmp m n)

-- by the constructor, then the label, then the children from the left
abbrev pub label_tree_cmp : LabelTree → LabelTree → Ordering
label_tree_cmp = tree_cmp label_cmp
