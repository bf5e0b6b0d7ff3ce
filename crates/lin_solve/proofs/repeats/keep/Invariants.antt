use Rattle.lin_solve.specs.contracts.compare.ComparePartialEq.TheImpl.{ghosts as compares}
use Rattle.lin_solve.proofs.Once.{KeepsOf}
use Rattle.lin_solve.proofs.repeats.keep.Given as goal

abbrev pub invariant-loop-literal : goal.invariant-loop-literal
invariant-loop-literal l = KeepsOf compares.eq l.literals l.sided l.initial.kept.items l.literal-index l.kept.items
