use Rattle.std.proofs.Common.{map, take}
use Rattle.sttr_core.specs.Machine.{plain_out}
use Rattle.sttr_core.specs.Linear.{AreAllLinear}
use Rattle.sttr_core.proofs.linear.first_copying.Given as goal

abbrev pub invariant-loop-i : goal.invariant-loop-i
invariant-loop-i g l = AreAllLinear (take l.i (map plain_out l.rules))
