-- The measure of a tree of a file.
use Rattle.std.proofs.Common.{◌≡◌, ℕ, zero, suc, ◌+◌, ◌<◌, ◌≤◌, List, [], ◌∷◌, length, map, get_or, ap, arith}
use Rattle.model_grammar.specs.TreeFiles.{FileTree, FileTrees, node, no_trees, and_tree, trees_of}
use Rattle.tree_reader.specs.declared.FileTree as code
use Rattle.tree_reader.specs.Plain.{plain_tree}

abbrev mutual
  pub weight : FileTree → ℕ
  weight (node place name labels trees) = suc (weights trees)

  pub weights : FileTrees → ℕ
  weights no_trees = 0
  weights (and_tree t ts) = weight t + weights ts

pub weight_at : (ts : List code.FileTree) (i : ℕ) (t : code.FileTree) → i < length ts → t ≡ get_or ts i t → weight (plain_tree t) ≤ weights (trees_of (map plain_tree ts))
weight_at [] i t low is = absurd (omega (arith, low))
weight_at (x ∷ ts) zero t low is = let same = ap (λ y. weight (plain_tree y)) is in omega (arith, same)
weight_at (x ∷ ts) (suc i) t low is = let later = weight_at ts i t (omega (arith, low)) is in omega (arith, later)
