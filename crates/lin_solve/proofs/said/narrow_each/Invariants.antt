use Rattle.std.proofs.Common.{List}
use Rattle.std.proofs.Math.IntN.{ℤ}
use Rattle.lin_solve.specs.Said.{AreSo, AreWithin}
use Rattle.lin_solve.proofs.said.narrow_each.Given as goal

abbrev pub invariant-loop-fact : goal.invariant-loop-fact
invariant-loop-fact l = (vs : List ℤ) → AreSo l.facts vs → AreWithin l.initial.reaches vs → AreWithin l.reaches vs
