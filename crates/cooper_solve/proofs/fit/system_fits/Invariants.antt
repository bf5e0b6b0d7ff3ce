use Rattle.std.proofs.Common.{take}
use Rattle.std.specs.List.{All}
use Rattle.math_cooper.specs.Puts.{InCondition, AllFit}
use Rattle.cooper_solve.proofs.fit.system_fits.Given as goal

abbrev pub invariant-loop-constraint : goal.invariant-loop-constraint
invariant-loop-constraint l = All (λ c. AllFit (InCondition c)) (take l.constraint-index l.system)
