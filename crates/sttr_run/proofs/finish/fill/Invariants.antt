use Rattle.std.proofs.Common.{ℕ, ◌≡◌, ◌-◌, ◌+◌, length}
use Rattle.sttr_run.specs.Finished.{triples_at}
use Rattle.sttr_run.proofs.finish.fill.Given as goal

abbrev pub invariant-children : goal.invariant-children
invariant-children l = (j : ℕ) → triples_at l.lists.items j ≡ triples_at l.fn.lists.items j

abbrev pub decreases-children : goal.decreases-children
decreases-children l = l.child + 1 - length l.lists.items
