use Rattle.std.proofs.Common.{◌≡◌, map, take}
use Rattle.label_core.specs.Formula.{plain_formula}
use Rattle.sta_core.specs.Machine.{plain_rule}
use Rattle.sta_classes.specs.Guards.{firing_guards}
use Rattle.sta_classes.specs.Rows.{class_rows_at}
use Rattle.sta_classes.proofs.formula.state_formula.Given as goal

abbrev pub invariant-loop-rule : goal.invariant-loop-rule
invariant-loop-rule g l = map plain_formula l.guards.items ≡ firing_guards l.constructor (class_rows_at l.found l.children) (map plain_rule (take l.rule-index l.rules))
