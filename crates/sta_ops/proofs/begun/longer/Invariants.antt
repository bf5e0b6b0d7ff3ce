use Rattle.std.proofs.Common.{map, take}
use Rattle.model_sta.specs.Least.{rows_of}
use Rattle.sta_core.specs.Machine.{plain_rule}
use Rattle.sta_theory.specs.Made.{AreNext}
use Rattle.sta_ops.specs.Opposites.{plain_begun, demands_in, opposite_in, AnyAsks, rows_in, AreOfClasses}
use Rattle.sta_ops.proofs.begun.longer.Given as goal

abbrev pub invariant-nodes : goal.invariant-nodes
invariant-nodes g l = record {
  next : AreNext (opposite_in l.opposites) (rows_in (rows_of l.table.found)) demands_in (AnyAsks l.constructor (map plain_rule l.rules)) (rows_of l.table.found) (map plain_begun (take l.begun-index l.nodes)) (map plain_begun l.made.items);
  classes : AreOfClasses (rows_of l.table.found) (map plain_begun l.made.items);
}
