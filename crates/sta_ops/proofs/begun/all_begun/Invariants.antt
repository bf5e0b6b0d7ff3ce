use Rattle.std.proofs.Common.{map}
use Rattle.model_sta.specs.Least.{rows_of}
use Rattle.sta_core.specs.Machine.{plain_rule}
use Rattle.sta_ops.specs.Opposites.{plain_begun, AreOfClasses, AreAllBegun}
use Rattle.sta_ops.proofs.begun.all_begun.Given as goal

abbrev pub invariant-places : goal.invariant-places
invariant-places g l = record {
  begun : AreAllBegun (rows_of l.table.found) (map plain_rule l.rules) l.constructor l.opposites l.place (map plain_begun l.nodes.items);
  classes : AreOfClasses (rows_of l.table.found) (map plain_begun l.nodes.items);
}
