use Rattle.std.proofs.Common.{◌<◌, All, take}
use Rattle.sttr_single.proofs.demands.is_low.Given as goal

abbrev pub invariant-states : goal.invariant-states
invariant-states l = All (λ x. x < l.bound) (take l.state-index l.states)
