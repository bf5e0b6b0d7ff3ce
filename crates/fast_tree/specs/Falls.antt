-- A child is less deep than its tree.
use Rattle.std.specs.Prelude.{suc, ◌+◌, ◌≤◌, List, [], ◌∷◌}
use Rattle.std.proofs.Common.{arith}
use Rattle.model_tree.specs.Tree.{Tree, depth, depth_all, trees_of}
use denote.Param.Weighed.{most}

pub most_le-depth_all : {A : Type 0} (ts : List (Tree A)) → most (λ t. depth t + 1) ts ≤ suc (depth_all (trees_of ts))
most_le-depth_all [] = omega arith
most_le-depth_all (t ∷ ts) = omega (arith, most_le-depth_all ts)
