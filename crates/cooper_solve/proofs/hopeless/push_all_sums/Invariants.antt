use Rattle.std.proofs.Common.{List}
use Rattle.std.proofs.Math.IntN.{ℤ}
use Rattle.cooper_solve.specs.Sums.{AreAtLeast}
use Rattle.cooper_solve.proofs.hopeless.push_all_sums.Given as goal

abbrev pub invariant-loop-form : goal.invariant-loop-form
invariant-loop-form l = (vs : List ℤ) → AreAtLeast vs l.own → AreAtLeast vs l.initial.out.items → AreAtLeast vs l.out.items
