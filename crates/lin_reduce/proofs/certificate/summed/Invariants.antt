use Rattle.std.proofs.Common.{List}
use Rattle.std.proofs.Math.IntN.{ℤ}
use Rattle.math_cooper.specs.System.{Solves}
use Rattle.lin_reduce.specs.Sums.{IsAtLeast}
use Rattle.lin_reduce.proofs.certificate.summed.Given as goal

abbrev pub invariant-loop-place : goal.invariant-loop-place
invariant-loop-place l = (vs : List ℤ) → Solves vs l.system → IsAtLeast vs l.sum
