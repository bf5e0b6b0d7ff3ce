use Rattle.std.proofs.Common.{◌≡◌, ◌≤◌, take}
use Rattle.model_chain.specs.Literals.{count_sides}
use Rattle.lin_solve.specs.Plain.{plain_literals}
use Rattle.lin_solve.proofs.tried.front.Given as goal

abbrev pub invariant-loop-i : goal.invariant-loop-i
invariant-loop-i l = record {
  are : l.count ≡ count_sides (plain_literals (take l.i l.literals));
  few : l.count ≤ l.sides;
  low : l.count ≤ l.i;
}
