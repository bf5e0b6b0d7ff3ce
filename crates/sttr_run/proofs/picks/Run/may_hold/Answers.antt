use Rattle.std.proofs.Common.{subst}
use Rattle.label_split.specs.Search.{DecidesEach}
use Rattle.sttr_run.proofs.Standing.{none_together}
use Rattle.sttr_run.proofs.picks.Run.may_hold.Goals as goal

pub returns-in-Unsat : goal.returns-in-Unsat
returns-in-Unsat g c = λ e l has. none_together g.T.Theory.atom_holds l c.args.guards.now (subst (DecidesEach (g.T.Theory.meaning c.args.self.now.theory.now) c.args.guards.now) c.in-Unsat.is c.in_ok-find.ensures l has)
