use Rattle.std.proofs.Common.{◌≡◌, [], drop, get_or}
use Rattle.std.specs.List.{list_all}
use Rattle.model_sta.specs.Sets.{has}
use Rattle.sta_marks.proofs.pass.has_each.Given as goal

abbrev pub invariant-loop-state : goal.invariant-loop-state
invariant-loop-state l = list_all (has (get_or l.marks.rows l.node [])) (drop l.state-index l.states) ≡ list_all (has (get_or l.marks.rows l.node [])) l.states
