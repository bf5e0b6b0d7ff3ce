use Rattle.std.proofs.Common.{[], ◌∷◌, ◌++◌, ◌≡◌}
use Rattle.sta_classes.specs.Grow.{Grown}
use Rattle.sta_classes.specs.Rows.{lists_of}
use Rattle.sta_classes.proofs.Grown.{Before}
use Rattle.sta_min.proofs.lists.add_longer.Given as goal

abbrev pub invariant-classes : goal.invariant-classes
invariant-classes l = Grown (lists_of l.initial.lists.items) (lists_of l.lists.items) (Before (λ k ks. l.list ++ k ∷ [] ≡ ks) l.numbers l.number-index)
