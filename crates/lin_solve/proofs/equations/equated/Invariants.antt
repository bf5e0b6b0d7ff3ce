use Rattle.lin_solve.specs.Equations.{HoldAlso}
use Rattle.lin_solve.proofs.equations.equated.Given as goal

abbrev pub invariant-loop-place : goal.invariant-loop-place
invariant-loop-place l = HoldAlso l.initial.own.items l.own.items
