use Rattle.std.proofs.Common.{All, take}
use Rattle.sttr_core.specs.Linear.{AreAllLinear}
use Rattle.sttr_core.proofs.linear.not_linear.Given as goal

abbrev pub invariant-loop-state : goal.invariant-loop-state
invariant-loop-state g l = All AreAllLinear (take l.state l.sttr.rules)
