use Rattle.std.proofs.Common.{◌≡◌, ◌<◌, ◌+◌, suc, drop}
use Rattle.model_sta.specs.Least.{total}
use Rattle.sta_classes.specs.Rows.{class_counts_at}
use Rattle.sta_classes.specs.declared.class.TheConstants.{CAP}
use Rattle.sta_classes.proofs.class.cost_over.Given as goal

abbrev pub invariant-loop-child : goal.invariant-loop-child
invariant-loop-child g l = (l.nodes < CAP) × (l.nodes + total (class_counts_at l.found (drop l.child-index l.children)) ≡ suc (total (class_counts_at l.found l.children)))
