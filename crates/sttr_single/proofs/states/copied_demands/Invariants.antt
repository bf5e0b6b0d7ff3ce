use Rattle.std.proofs.Common.{◌≡◌, map, take}
use Rattle.sttr_single.proofs.states.copied_demands.Given as goal

abbrev pub invariant-loop-states : goal.invariant-loop-states
invariant-loop-states l = map (λ d. d.items) l.copies.items ≡ map (λ d. d.items) (take l.states-index l.demands)
