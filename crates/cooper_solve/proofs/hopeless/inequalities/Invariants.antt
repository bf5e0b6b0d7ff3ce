use Rattle.std.proofs.Common.{List}
use Rattle.std.proofs.Math.IntN.{ℤ}
use Rattle.math_cooper.specs.System.{Solves}
use Rattle.cooper_solve.specs.Sums.{AreAtLeast}
use Rattle.cooper_solve.proofs.hopeless.inequalities.Given as goal

abbrev pub invariant-loop-constraint : goal.invariant-loop-constraint
invariant-loop-constraint l = (vs : List ℤ) → Solves vs l.system → AreAtLeast vs l.out.items
