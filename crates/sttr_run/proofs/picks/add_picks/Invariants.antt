use Rattle.std.proofs.Common.{take}
use Rattle.sttr_run.specs.Picks.{AddsPicks}
use Rattle.sttr_run.proofs.picks.add_picks.Given as goal

abbrev pub invariant-picks : goal.invariant-picks
invariant-picks g l = AddsPicks (take l.pick-index l.picks) l.fired l.fn.made.items l.made.items
