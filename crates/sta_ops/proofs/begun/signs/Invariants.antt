use Rattle.std.proofs.Common.{◌≡◌, map, take}
use Rattle.model_sta.specs.Sets.{has}
use Rattle.sta_classes.specs.Plain.{class_row}
use Rattle.sta_ops.proofs.begun.signs.Given as goal

abbrev pub invariant-loop-state : goal.invariant-loop-state
invariant-loop-state g l = map (λ b. b) l.signs.items ≡ map (has (class_row l.table l.class)) (take l.state-index l.states)
