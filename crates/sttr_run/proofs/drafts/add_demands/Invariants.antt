use Rattle.std.proofs.Common.{take}
use Rattle.sttr_run.specs.Drafts.{Asks}
use Rattle.sttr_run.proofs.drafts.add_demands.Given as goal

abbrev pub invariant-demands : goal.invariant-demands
invariant-demands l = Asks l.to.items l.fn.to.items (take l.demand-index l.demands)
