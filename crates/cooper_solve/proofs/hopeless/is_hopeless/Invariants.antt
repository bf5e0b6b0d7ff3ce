use Rattle.std.proofs.Common.{List}
use Rattle.std.proofs.Math.IntN.{ℤ}
use Rattle.math_cooper.specs.System.{Solves}
use Rattle.cooper_solve.specs.Sums.{AreAtLeast}
use Rattle.cooper_solve.proofs.hopeless.is_hopeless.Given as goal

abbrev pub invariant-loop : goal.invariant-loop
invariant-loop l = (vs : List ℤ) → Solves vs l.system → AreAtLeast vs l.forms.items
