use Rattle.std.proofs.Common.{◌≡◌}
use Rattle.sta_classes.specs.Grow.{Grown}
use Rattle.sta_classes.proofs.Grown.{Before}
use Rattle.sta_ops.proofs.begun.add_states.Given as goal

abbrev pub invariant-states : goal.invariant-states
invariant-states l = Grown l.initial.asked.keys l.asked.keys (Before (λ s p. s ≡ p) l.states l.state-index)
