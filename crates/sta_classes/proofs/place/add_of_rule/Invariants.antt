use Rattle.std.proofs.Common.{◌≡◌}
use Rattle.sta_classes.specs.Grow.{Grown}
use Rattle.sta_classes.proofs.Grown.{Before}
use Rattle.sta_classes.proofs.place.add_of_rule.Given as goal

abbrev pub invariant-states : goal.invariant-states
invariant-states g l = Grown l.initial.list.items l.list.items (Before (λ s p. s ≡ p) l.state-items l.state-index)
