use Rattle.std.proofs.Common.{take}
use Rattle.sttr_run.specs.Drafts.{AreProducts}
use Rattle.sttr_run.proofs.picks.Run.products.Given as goal

abbrev pub invariant-firsts : goal.invariant-firsts
invariant-firsts g l = AreProducts g.T.Map.PartialEq.eq (take l.first-index l.firsts) l.seconds l.made.items
