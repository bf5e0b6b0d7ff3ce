use Rattle.lin_solve.specs.Equations.{HoldAlso}
use Rattle.lin_solve.proofs.apart.only_of.Given as goal

abbrev pub invariant-loop-place : goal.invariant-loop-place
invariant-loop-place l = HoldAlso l.literals l.out.items
