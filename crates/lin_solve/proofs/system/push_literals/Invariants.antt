use Rattle.std.proofs.Common.{◌≡◌, ◌≤◌, ◌++◌, drop}
use Rattle.model_chain.specs.Literals.{literals_conditions}
use Rattle.lin_solve.specs.Plain.{plain_known, plain_literals}
use Rattle.lin_solve.proofs.system.push_literals.Given as goal

abbrev pub invariant-loop-literal : goal.invariant-loop-literal
invariant-loop-literal l = record {
  few : l.next ≤ l.literal-index;
  are : l.out.items ++ literals_conditions (plain_known l.known) (plain_literals (drop l.literal-index l.literals)) (drop l.next l.sides) ≡ l.initial.out.items ++ literals_conditions (plain_known l.known) (plain_literals l.literals) l.sides;
}
