use Rattle.std.proofs.Common.{◌≡◌, ◌≢◌, ◌⊎◌, List, length, get_or}
use Rattle.std.proofs.Math.IntN.{ℤ, pos}
use Rattle.std.specs.Prelude.{◌<ℤ◌, ◌≤ℤ◌}
use Rattle.model_chain.specs.Literals.{HoldsAll}
use Rattle.lin_solve.specs.Plain.{plain_literals}
use Rattle.lin_solve.specs.Branches.{SomeHeld}
use Rattle.lin_solve.proofs.branches.Branch.push_values.Given as goal

abbrev pub invariant-loop-value : goal.invariant-loop-value
invariant-loop-value l = record {
  parts : (us : List ℤ) → length us ≡ 8 → HoldsAll (plain_literals l.self.literals.items) us → (get_or us l.field (pos 0) <ℤ l.value) ⊎ (l.values.to ≤ℤ get_or us l.field (pos 0)) → get_or us l.field (pos 0) ≢ l.values.first → SomeHeld l.pending.items;
  kept : SomeHeld l.initial.pending.items → SomeHeld l.pending.items;
}
