use Rattle.std.proofs.Common.{ℕ, ◌≤◌, ◌<◌}
use Rattle.sttr_core.specs.Terms.{plain_term}
use Rattle.sttr_core.specs.Uses.{use_count}
use Rattle.sttr_core.proofs.linear.uses_some_twice.Given as goal

abbrev pub invariant-loop-child : goal.invariant-loop-child
invariant-loop-child g l = (j : ℕ) → j < l.child → use_count j (plain_term l.term) ≤ 1
