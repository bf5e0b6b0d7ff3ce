use Rattle.std.proofs.Common.{take}
use Rattle.sttr_run.specs.Drafts.{AddsProducts}
use Rattle.sttr_run.proofs.picks.Run.add_products.Given as goal

abbrev pub invariant-seconds : goal.invariant-seconds
invariant-seconds g l = AddsProducts g.T.Map.PartialEq.eq l.first (take l.second-index l.seconds) l.fn.made.items l.made.items
