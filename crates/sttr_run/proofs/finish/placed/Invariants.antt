use Rattle.std.proofs.Common.{length}
use Rattle.sttr_run.proofs.Placing.{Placed}
use Rattle.sttr_run.proofs.finish.placed.Given as goal

abbrev pub invariant-demands : goal.invariant-demands
invariant-demands l = Placed l.fn.demands.items l.demands.items l.lists.items

abbrev pub decreases-demands : goal.decreases-demands
decreases-demands l = length l.demands.items
