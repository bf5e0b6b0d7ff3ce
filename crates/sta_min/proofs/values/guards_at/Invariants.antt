use Rattle.std.proofs.Common.{map, []}
use Rattle.label_core.specs.Formula.{plain_formula}
use Rattle.sta_core.specs.Machine.{plain_rule}
use Rattle.sta_classes.specs.Grow.{Grown, Some}
use Rattle.sta_classes.proofs.Grown.{Before}
use Rattle.sta_min.specs.Values.{IsGuardAt}
use Rattle.sta_min.proofs.values.guards_at.Given as goal

abbrev pub invariant-states : goal.invariant-states
invariant-states g l = Grown [] (map plain_formula l.guards.items) (Before (λ those. Some (λ r. IsGuardAt l.constructor (plain_rule r)) those.items) l.rules l.those-index)
