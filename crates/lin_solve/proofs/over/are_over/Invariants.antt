use Rattle.std.proofs.Common.{drop}
use Rattle.model_chain.specs.Literals.{AreLiteralsOver}
use Rattle.lin_solve.specs.Plain.{plain_literals}
use Rattle.lin_solve.proofs.over.are_over.Given as goal

abbrev pub invariant-loop-literal : goal.invariant-loop-literal
invariant-loop-literal l = AreLiteralsOver 8 (plain_literals (drop l.literal-index l.literals)) → AreLiteralsOver 8 (plain_literals l.literals)
