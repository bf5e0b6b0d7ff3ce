use Rattle.std.proofs.Common.{sym, subst}
use Rattle.sta_classes.specs.Meant.{IsTableOf}
use Rattle.sta_ops.proofs.Answered.{empty_from}
use Rattle.sta_ops.proofs.emptiness.empty.Goals as goal

pub least_tree-requires-clause-table : goal.least_tree-requires-clause-table
least_tree-requires-clause-table g c = subst (λ m. IsTableOf (g.T.Theory.meaning c.args.theory.now) m c.in_ok-table.table) (sym c.in_ok-table.ensures.machine) c.in_ok-table.ensures.table

pub returns-clause-found : goal.returns-clause-found
returns-clause-found g c = empty_from (g.T.Theory.meaning c.args.theory.now) c.in_ok-table.table.machine c.args.lang.now.sta c.args.lang.now.state c.args.most c.in_ok-found.found c.in_ok-table.ensures.machine c.in_ok-found.ensures
