use Rattle.std.proofs.Common.{◌≡◌, ◌≢◌, ◌<◌, ℕ, List, length, get_or}
use Rattle.std.proofs.Math.IntN.{ℤ, pos, ◌+ℤ◌, ◌*ℤ◌}
use Rattle.model_chain.specs.Literals.{HoldsAll}
use Rattle.lin_solve.specs.Plain.{plain_literals}
use Rattle.lin_solve.specs.Branches.{SomeHeld}
use Rattle.lin_solve.proofs.branches.Branch.push_parts.Given as goal

abbrev pub invariant-loop-number : goal.invariant-loop-number
invariant-loop-number l = record {
  parts : (us : List ℤ) (q : ℤ) (m : ℕ) → length us ≡ 8 → HoldsAll (plain_literals l.self.literals.items) us → m < l.number → m ≢ l.first → get_or us l.split.field (pos 0) ≡ (pos l.split.times *ℤ q) +ℤ pos m → SomeHeld l.pending.items;
  kept : SomeHeld l.initial.pending.items → SomeHeld l.pending.items;
}
