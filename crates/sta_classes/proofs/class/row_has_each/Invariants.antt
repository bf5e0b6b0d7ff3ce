use Rattle.std.proofs.Common.{◌≡◌, drop}
use Rattle.std.specs.List.{list_all}
use Rattle.model_sta.specs.Sets.{has}
use Rattle.sta_classes.proofs.class.row_has_each.Given as goal

abbrev pub invariant-loop-state : goal.invariant-loop-state
invariant-loop-state l = list_all (has l.row) (drop l.state-index l.states) ≡ list_all (has l.row) l.states
