use Rattle.std.proofs.Common.{◌≡◌, take, map}
use Rattle.cooper_solve.specs.Views.{period_number}
use Rattle.cooper_solve.proofs.scale.periods.Given as goal

abbrev pub invariant-loop-constraint : goal.invariant-loop-constraint
invariant-loop-constraint l = l.out.items ≡ map (period_number l.last) (take l.constraint-index l.system)
