use Rattle.std.proofs.Common.{length}
use Rattle.sttr_run.specs.Finished.{IsFinished}
use Rattle.sttr_run.proofs.Popping.{EachSoFar}
use Rattle.sttr_run.proofs.finish.finish.Given as goal

abbrev pub invariant-drafts : goal.invariant-drafts
invariant-drafts g l = EachSoFar IsFinished l.fn.drafts.items l.drafts.items l.ways.items

abbrev pub decreases-drafts : goal.decreases-drafts
decreases-drafts g l = length l.drafts.items
