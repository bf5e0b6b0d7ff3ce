use Rattle.cooper_solve.specs.Views.{AreBounds}
use Rattle.cooper_solve.proofs.bounds.bounds.Given as goal

abbrev pub invariant-loop-number : goal.invariant-loop-number
invariant-loop-number l = AreBounds l.low l.last l.system l.number l.out.items
