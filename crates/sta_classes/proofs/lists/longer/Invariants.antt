use Rattle.std.proofs.Common.{ℕ, [], ◌∷◌, ◌++◌, ◌≡◌, Contains}
use Rattle.sta_classes.specs.Grow.{Grown}
use Rattle.sta_classes.specs.Lists.{MayStand}
use Rattle.sta_classes.specs.Rows.{lists_of}
use Rattle.sta_classes.proofs.Grown.{Before}
use Rattle.sta_classes.proofs.lists.longer.Given as goal

abbrev pub invariant-lists : goal.invariant-lists
invariant-lists l = Grown [] (lists_of l.made.items) (Before (λ v ks. (k : ℕ) × (Contains l.firsts k × MayStand l.place l.class l.j k) × (v.items ++ k ∷ [] ≡ ks)) l.lists l.list-index)

abbrev pub invariant-firsts : goal.invariant-firsts
invariant-firsts l = Grown (lists_of l.initial.made.items) (lists_of l.made.items) (Before (λ x ks. MayStand l.place l.class l.j x × (l.list.items ++ x ∷ [] ≡ ks)) l.firsts l.first-index)
