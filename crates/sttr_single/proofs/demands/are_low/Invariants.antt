use Rattle.std.proofs.Common.{◌<◌, All, take}
use Rattle.sttr_single.proofs.demands.are_low.Given as goal

abbrev pub invariant-demands : goal.invariant-demands
invariant-demands l = All (λ d. All (λ x. x < l.bound) d.items) (take l.states-index l.demands)
