use Rattle.std.proofs.Common.{◌↔◌, drop}
use Rattle.lin_solve.specs.Kept.{AreDifferent}
use Rattle.lin_solve.specs.contracts.compare.ComparePartialEq.TheImpl.{ghosts as compares}
use Rattle.lin_solve.proofs.repeats.are_different.Given as goal

abbrev pub invariant-loop-i : goal.invariant-loop-i
invariant-loop-i l = AreDifferent compares.eq (drop l.i l.literals) ↔ AreDifferent compares.eq l.literals
