use Rattle.std.proofs.Common.{◌≡◌, ◌+◌, map, take}
use Rattle.sta_ops.proofs.copies.move_states.Given as goal

abbrev pub invariant-loop-state : goal.invariant-loop-state
invariant-loop-state l = map (λ s. s) l.copies.items ≡ map (λ s. l.by + s) (take l.state-index l.states)
