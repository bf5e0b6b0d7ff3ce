use Rattle.std.proofs.Common.{take}
use Rattle.sttr_run.specs.Picks.{AreWithEach}
use Rattle.sttr_run.proofs.picks.with_each.Given as goal

abbrev pub invariant-rules : goal.invariant-rules
invariant-rules g l = AreWithEach l.picks (take l.rule-index l.fired) l.made.items
