use Rattle.lin_solve.specs.Plain.{plain_literals}
use Rattle.lin_solve.specs.Branches.{HoldSomewhere, SomeHeld}
use Rattle.lin_solve.proofs.branches.run.Given as goal

abbrev pub invariant-loop : goal.invariant-loop
invariant-loop l = HoldSomewhere (plain_literals l.literals) → SomeHeld l.pending.items
