use Rattle.std.proofs.Common.{◌≡◌, take, map}
use Rattle.std.specs.Prelude.{unsigned_abs}
use Rattle.math_cooper.specs.System.{unit}
use Rattle.cooper_solve.proofs.scale.unit_each.Given as goal

abbrev pub invariant-loop-constraint : goal.invariant-loop-constraint
invariant-loop-constraint l = l.out.items ≡ map (unit l.last (unsigned_abs l.c)) (take l.constraint-index l.system)
