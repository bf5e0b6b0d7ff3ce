use Rattle.std.proofs.Common.{take, []}
use Rattle.math_cooper.specs.System.{Solves}
use Rattle.cooper_solve.proofs.search.are_met.Given as goal

abbrev pub invariant-loop-constraint : goal.invariant-loop-constraint
invariant-loop-constraint l = Solves [] (take l.constraint-index l.system)
