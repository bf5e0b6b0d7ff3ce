-- What is shown of too many or too large outputs, and numbers of outputs that are out of range.
use Rattle.std.specs.Prelude.{◌≡◌, ◌⊎◌, ℕ, ℤ, false, List, codes}
use Rattle.std.specs.List.{Contains}
use Rattle.model_tree.specs.Label.{Label, row, pair, whole}
use Rattle.model_tree.specs.Tree.{node, Trees, LabelTree}
use Rattle.model_tree.specs.Kept.{is_kept_field}
use Rattle.model_sta.specs.Loads.{Load, outputs, nodes, depths, IsSubtree}

abbrev pub load_shown : Load → List ℕ
load_shown outputs = codes "outputs"
load_shown nodes = codes "nodes"
load_shown depths = codes "depth"

-- the number is one of a label
abbrev pub IsNumberOf : ℤ → Label → Type 0
IsNumberOf n (row values) = Contains values (whole n)
IsNumberOf n (pair left right) = IsNumberOf n left ⊎ IsNumberOf n right

-- the number is one of the tree's, and has not 64 bits
abbrev pub IsFarNumberOf : ℤ → LabelTree → Type 0
IsFarNumberOf n t = (is_kept_field (whole n) ≡ false) × ((c : ℕ) × (l : Label) × (ts : Trees Label) × IsSubtree (node c l ts) t × IsNumberOf n l)
