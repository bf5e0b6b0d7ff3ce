use Rattle.std.proofs.Common.{take}
use Rattle.sttr_run.proofs.Asking.{AsksStates}
use Rattle.sttr_run.proofs.leaves.state_demands.Given as goal

abbrev pub invariant-states : goal.invariant-states
invariant-states l = AsksStates l.demands.items l.child (take l.state-index l.all)
