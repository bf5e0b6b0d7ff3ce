use Rattle.sta_classes.specs.Grow.{Grown, Some}
use Rattle.sta_classes.specs.Places.{AsksFor}
use Rattle.sta_classes.proofs.Grown.{Before}
use Rattle.sta_classes.proofs.place.Place.new.Given as goal

abbrev pub invariant-states : goal.invariant-states
invariant-states g l = Grown l.initial.states.items l.states.items (Before (λ those. Some (AsksFor l.constructor l.place) those.items) l.rules l.those-index)

abbrev pub invariant-rules : goal.invariant-rules
invariant-rules g l = Grown l.initial.states.items l.states.items (Before (AsksFor l.constructor l.place) l.rule-items l.rule-index)
