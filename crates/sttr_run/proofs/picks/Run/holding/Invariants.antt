use Rattle.std.proofs.Common.{length}
use Rattle.sttr_run.proofs.Popping.{HoldSoFar}
use Rattle.sttr_run.proofs.picks.Run.holding.Given as goal

abbrev pub invariant-picks : goal.invariant-picks
invariant-picks g l = HoldSoFar g.T.Theory.atom_holds g.T.Labels.make (g.T.Theory.meaning l.self.theory.now).has l.fn.picks.items l.picks.items l.kept.items

abbrev pub decreases-picks : goal.decreases-picks
decreases-picks g l = length l.picks.items
