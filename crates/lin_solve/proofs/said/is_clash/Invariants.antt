use Rattle.std.proofs.Common.{List}
use Rattle.std.proofs.Math.IntN.{ℤ}
use Rattle.lin_solve.specs.Said.{AreSo, AreWithin}
use Rattle.lin_solve.proofs.said.is_clash.Given as goal

abbrev pub invariant-loop : goal.invariant-loop
invariant-loop l = (vs : List ℤ) → AreSo l.facts vs → AreWithin l.reaches.items vs
