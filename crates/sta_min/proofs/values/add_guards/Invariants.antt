use Rattle.std.proofs.Common.{map}
use Rattle.label_core.specs.Formula.{plain_formula}
use Rattle.sta_core.specs.Machine.{plain_rule}
use Rattle.sta_classes.specs.Grow.{Grown}
use Rattle.sta_classes.proofs.Grown.{Before}
use Rattle.sta_min.specs.Values.{IsGuardAt}
use Rattle.sta_min.proofs.values.add_guards.Given as goal

abbrev pub invariant-rules : goal.invariant-rules
invariant-rules g l = Grown (map plain_formula l.initial.guards.items) (map plain_formula l.guards.items) (Before (λ r. IsGuardAt l.constructor (plain_rule r)) l.rules l.rule-index)
