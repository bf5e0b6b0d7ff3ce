use Rattle.std.proofs.Common.{List}
use Rattle.std.proofs.Math.IntN.{ℤ}
use Rattle.cooper_solve.specs.Sums.{AreAtLeast, IsAtLeast}
use Rattle.cooper_solve.proofs.hopeless.push_sums.Given as goal

abbrev pub invariant-loop-other : goal.invariant-loop-other
invariant-loop-other l = (vs : List ℤ) → AreAtLeast vs l.forms → IsAtLeast vs l.form → AreAtLeast vs l.initial.out.items → AreAtLeast vs l.out.items
