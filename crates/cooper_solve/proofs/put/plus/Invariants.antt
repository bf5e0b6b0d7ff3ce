use Rattle.std.proofs.Common.{◌≡◌, take}
use Rattle.math_cooper.specs.System.{add_times}
use Rattle.cooper_solve.specs.Views.{one}
use Rattle.cooper_solve.proofs.put.plus.Given as goal

abbrev pub invariant-loop-i : goal.invariant-loop-i
invariant-loop-i l = l.out.items ≡ add_times (one l.minus) (take l.i l.f) (take l.i l.g)
