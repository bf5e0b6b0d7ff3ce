use Rattle.std.proofs.Common.{◌≡◌, List, length}
use Rattle.std.proofs.Math.IntN.{ℤ}
use Rattle.model_chain.specs.Literals.{HoldsAll}
use Rattle.lin_solve.specs.Plain.{plain_literals}
use Rattle.lin_solve.specs.Cases.{SomeCase}
use Rattle.lin_solve.proofs.cases.seek_cases.Given as goal

abbrev pub invariant-loop : goal.invariant-loop
invariant-loop l = (us : List ℤ) → length us ≡ 8 → HoldsAll (plain_literals l.literals) us → SomeCase us l.pending.items
