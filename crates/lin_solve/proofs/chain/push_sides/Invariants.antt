use Rattle.std.proofs.Common.{◌≡◌, ◌≤◌, ◌++◌, drop, map}
use Rattle.model_chain.specs.Chains.{side_choices}
use Rattle.lin_solve.specs.Plain.{plain_literals}
use Rattle.lin_solve.specs.Shown.{plain_choice}
use Rattle.lin_solve.proofs.chain.push_sides.Given as goal

abbrev pub invariant-loop-i : goal.invariant-loop-i
invariant-loop-i l = record {
  few : l.next ≤ l.i;
  are : map plain_choice l.out.items ++ side_choices l.i (plain_literals (drop l.i l.literals)) (drop l.next l.sides) ≡ map plain_choice l.initial.out.items ++ side_choices 0 (plain_literals l.literals) l.sides;
}
