use Rattle.std.proofs.Common.{ℕ, [], ◌∷◌, ◌++◌, ◌≡◌, Contains}
use Rattle.sta_classes.specs.Grow.{Grown}
use Rattle.sta_classes.specs.Rows.{lists_of}
use Rattle.sta_classes.proofs.Grown.{Before}
use Rattle.sta_min.proofs.lists.longer.Given as goal

abbrev pub invariant-lists : goal.invariant-lists
invariant-lists l = Grown [] (lists_of l.made.items) (Before (λ v ks. (k : ℕ) × Contains l.numbers k × (v.items ++ k ∷ [] ≡ ks)) l.lists l.list-index)
