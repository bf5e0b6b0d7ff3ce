use Rattle.std.proofs.Common.{List}
use Rattle.std.proofs.Math.IntN.{ℤ}
use Rattle.model_chain.specs.Literals.{HoldsAll}
use Rattle.lin_solve.specs.Plain.{plain_literals}
use Rattle.lin_solve.specs.Sought.{IsSidedAt}
use Rattle.lin_solve.proofs.found.sided.Given as goal

abbrev pub invariant-loop-i : goal.invariant-loop-i
invariant-loop-i l = (us : List ℤ) → HoldsAll (plain_literals l.literals) us → IsSidedAt l.literals l.place l.turned us → HoldsAll (plain_literals l.out.items) us
