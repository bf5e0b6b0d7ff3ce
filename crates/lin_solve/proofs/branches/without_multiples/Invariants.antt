use Rattle.std.proofs.Common.{List, length}
use Rattle.std.proofs.Math.IntN.{ℤ}
use Rattle.math_cooper.specs.System.{Solves}
use Rattle.lin_solve.proofs.branches.without_multiples.Given as goal

abbrev pub invariant-loop-condition : goal.invariant-loop-condition
invariant-loop-condition l = (vs : List ℤ) → Solves vs l.initial.system.items → Solves vs l.system.items × Solves vs l.kept.items

abbrev pub decreases-loop-condition : goal.decreases-loop-condition
decreases-loop-condition l = length l.system.items
