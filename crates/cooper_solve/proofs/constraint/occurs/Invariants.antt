use Rattle.std.proofs.Common.{take}
use Rattle.math_cooper.specs.Puts.{Absent}
use Rattle.cooper_solve.proofs.constraint.occurs.Given as goal

abbrev pub invariant-loop-constraint : goal.invariant-loop-constraint
invariant-loop-constraint l = Absent l.last (take l.constraint-index l.system)
