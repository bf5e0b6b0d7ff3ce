use Rattle.std.proofs.Common.{◌≡◌, ◌≤◌, take}
use Rattle.lin_solve.specs.Shown.{AllKept}
use Rattle.lin_solve.proofs.ints.first.Given as goal

abbrev pub invariant-loop-i : goal.invariant-loop-i
invariant-loop-i l = (l.i ≤ l.count) × (l.first.items ≡ take l.i l.values) × AllKept l.first.items
