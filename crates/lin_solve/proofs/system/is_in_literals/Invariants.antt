use Rattle.std.proofs.Common.{◌≡◌, drop}
use Rattle.model_chain.specs.Literals.{field_in}
use Rattle.lin_solve.specs.Plain.{plain_literals}
use Rattle.lin_solve.proofs.system.is_in_literals.Given as goal

abbrev pub invariant-loop-literal : goal.invariant-loop-literal
invariant-loop-literal l = field_in l.field (plain_literals l.literals) ≡ field_in l.field (plain_literals (drop l.literal-index l.literals))
