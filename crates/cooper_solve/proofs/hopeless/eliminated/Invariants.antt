use Rattle.std.proofs.Common.{List}
use Rattle.std.proofs.Math.IntN.{ℤ}
use Rattle.cooper_solve.specs.Sums.{AreAtLeast}
use Rattle.cooper_solve.proofs.hopeless.eliminated.Given as goal

abbrev pub invariant-loop-form : goal.invariant-loop-form
invariant-loop-form l = (vs : List ℤ) → AreAtLeast vs l.yielded → AreAtLeast vs l.out.items × AreAtLeast vs l.own.items
