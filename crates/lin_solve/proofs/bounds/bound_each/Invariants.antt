use Rattle.lin_solve.specs.Equations.{HoldAlso}
use Rattle.lin_solve.proofs.bounds.bound_each.Given as goal

abbrev pub invariant-loop-field : goal.invariant-loop-field
invariant-loop-field l = HoldAlso l.initial.literals.items l.literals.items
