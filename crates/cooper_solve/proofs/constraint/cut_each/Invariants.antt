use Rattle.std.proofs.Common.{◌≡◌, take}
use Rattle.math_cooper.specs.Puts.{cut}
use Rattle.cooper_solve.proofs.constraint.cut_each.Given as goal

abbrev pub invariant-loop-constraint : goal.invariant-loop-constraint
invariant-loop-constraint l = l.out.items ≡ cut l.last (take l.constraint-index l.system)
