use Rattle.std.proofs.Common.{◌<◌, All, take}
use Rattle.sta_tests.proofs.fitting.are_states.Given as goal

abbrev pub invariant-loop-state : goal.invariant-loop-state
invariant-loop-state l = All (λ s. s < l.states) (take l.state-index l.list)
