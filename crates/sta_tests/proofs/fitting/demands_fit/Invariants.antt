use Rattle.std.proofs.Common.{◌<◌, All, take}
use Rattle.sta_tests.proofs.fitting.demands_fit.Given as goal

abbrev pub invariant-loop-those : goal.invariant-loop-those
invariant-loop-those l = All (λ d. All (λ s. s < l.states) d.items) (take l.those-index l.demands)
