use Rattle.std.proofs.Common.{◌≡◌, ◌+◌, ◌≤◌, drop}
use Rattle.model_chain.specs.Literals.{count_sides}
use Rattle.lin_solve.specs.Plain.{plain_literals}
use Rattle.lin_solve.proofs.decision.count_needed.Given as goal

abbrev pub invariant-loop-literal : goal.invariant-loop-literal
invariant-loop-literal l = record {
  few : l.count ≤ l.literal-index;
  are : l.count + count_sides (plain_literals (drop l.literal-index l.literals)) ≡ count_sides (plain_literals l.literals);
}
