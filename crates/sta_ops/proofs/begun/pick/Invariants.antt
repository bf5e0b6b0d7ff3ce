use Rattle.model_sta.specs.Least.{rows_of}
use Rattle.sta_ops.proofs.Picking.{ArePickedBelow}
use Rattle.sta_ops.proofs.begun.pick.Given as goal

abbrev pub invariant-classes : goal.invariant-classes
invariant-classes g l = ArePickedBelow (rows_of l.table.found) l.states l.class l.picked.items l.seen.keys (λ v. v.items)
