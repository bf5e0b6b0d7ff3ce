use Rattle.std.proofs.Common.{◌≡◌, take}
use Rattle.math_cooper.specs.System.{put_all}
use Rattle.cooper_solve.proofs.put.put_each.Given as goal

abbrev pub invariant-loop-constraint : goal.invariant-loop-constraint
invariant-loop-constraint l = l.out.items ≡ put_all l.last l.form (take l.constraint-index l.system)
