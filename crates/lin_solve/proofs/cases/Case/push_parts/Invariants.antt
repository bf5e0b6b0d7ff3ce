use Rattle.std.proofs.Common.{◌≡◌, ◌<◌, ℕ, List}
use Rattle.std.proofs.Math.IntN.{ℤ}
use Rattle.model_chain.specs.Literals.{compare_holds}
use Rattle.lin_solve.specs.Plain.{plain_compare}
use Rattle.lin_solve.specs.Cases.{IsPart, SomeCase}
use Rattle.lin_solve.proofs.cases.Case.push_parts.Given as goal

abbrev pub invariant-loop-number : goal.invariant-loop-number
invariant-loop-number l = record {
  parts : (us : List ℤ) → compare_holds (plain_compare l.literal.atom) us ≡ l.literal.sign → (m : ℕ) → m < l.number → IsPart l.self l.turn m us → SomeCase us l.pending.items;
  kept : (us : List ℤ) → SomeCase us l.initial.pending.items → SomeCase us l.pending.items;
}
