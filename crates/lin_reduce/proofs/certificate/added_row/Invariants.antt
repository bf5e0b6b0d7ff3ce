use Rattle.std.proofs.Common.{◌≡◌, take}
use Rattle.math_cooper.specs.System.{add_times}
use Rattle.lin_reduce.proofs.certificate.added_row.Given as goal

abbrev pub invariant-loop-i : goal.invariant-loop-i
invariant-loop-i l = l.out.items ≡ add_times l.times (take l.i l.row) (take l.i l.other)
