use Rattle.std.proofs.Common.{map}
use Rattle.sta_classes.specs.Rows.{lists_of}
use Rattle.sta_min.specs.Nodes.{AreAllNodes}
use Rattle.sta_min.specs.Probes.{plain_probe}
use Rattle.sta_min.proofs.nodes.all_nodes.Given as goal

abbrev pub invariant-classes : goal.invariant-classes
invariant-classes g l = AreAllNodes g.T.Theory.label_of g.T.Theory.atom_holds l.steps.table.now (lists_of l.steps.values.items) (map plain_probe l.probes) l.class (lists_of l.nodes.items)
