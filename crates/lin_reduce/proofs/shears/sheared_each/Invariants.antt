use Rattle.std.proofs.Common.{List, set}
use Rattle.std.proofs.Math.IntN.{ℤ}
use Rattle.math_cooper.specs.System.{Solves}
use Rattle.lin_reduce.specs.Parts.{IsSheared}
use Rattle.lin_reduce.proofs.shears.sheared_each.Given as goal

abbrev pub invariant-loop-condition : goal.invariant-loop-condition
invariant-loop-condition l = (vs : List ℤ) (w : ℤ) → IsSheared l.shear vs w → Solves vs l.yielded → Solves (set vs l.shear.of w) l.out.items
