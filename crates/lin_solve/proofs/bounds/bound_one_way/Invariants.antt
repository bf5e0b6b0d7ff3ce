use Rattle.lin_solve.specs.Equations.{HoldAlso}
use Rattle.lin_solve.proofs.bounds.bound_one_way.Given as goal

abbrev pub invariant-loop : goal.invariant-loop
invariant-loop l = HoldAlso l.initial.literals.items l.literals.items
