use Rattle.std.proofs.Common.{◌≡◌, drop}
use Rattle.std.specs.List.{list_all}
use Rattle.model_sta.specs.Sets.{has}
use Rattle.sta_classes.specs.Plain.{class_row}
use Rattle.sta_min.proofs.steps.has_each.Given as goal

abbrev pub invariant-loop-state : goal.invariant-loop-state
invariant-loop-state g l = list_all (has (class_row l.table l.class)) (drop l.state-index l.states) ≡ list_all (has (class_row l.table l.class)) l.states
