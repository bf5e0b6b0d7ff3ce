use Rattle.std.proofs.Common.{map}
use Rattle.sta_classes.specs.Rows.{lists_of}
use Rattle.sta_min.specs.Nodes.{AreNodesOver}
use Rattle.sta_min.specs.Probes.{plain_probe}
use Rattle.sta_min.proofs.nodes.nodes_over.Given as goal

abbrev pub invariant-probes : goal.invariant-probes
invariant-probes g l = AreNodesOver g.T.Theory.label_of g.T.Theory.atom_holds l.steps.table.now (lists_of l.steps.values.items) (map plain_probe l.probes) l.class l.i l.nodes.items
