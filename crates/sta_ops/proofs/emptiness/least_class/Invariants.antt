use Rattle.model_sta.specs.Least.{rows_of, counts_of}
use Rattle.sta_ops.specs.Asked.{has_asked}
use Rattle.sta_ops.specs.LeastClass.{IsBestBelow}
use Rattle.sta_ops.proofs.emptiness.least_class.Given as goal

abbrev pub invariant-classes : goal.invariant-classes
invariant-classes g l = IsBestBelow (rows_of l.table.found) (counts_of l.table.found) (has_asked l.asked) l.class l.best
