use Rattle.std.proofs.Common.{◌≡◌, ◌++◌, drop}
use Rattle.lin_solve.proofs.chain.copy_literals.Given as goal

abbrev pub invariant-loop-literal : goal.invariant-loop-literal
invariant-loop-literal l = l.out.items ++ drop l.literal-index l.literals ≡ l.literals
