use Rattle.std.proofs.Common.{◌≡◌, ◌++◌, map, take}
use Rattle.model_sta.specs.Least.{rows_of}
use Rattle.sta_ops.specs.Opposites.{plain_begun, with_child}
use Rattle.sta_ops.proofs.begun.add_next.Given as goal

abbrev pub invariant-loop-class : goal.invariant-loop-class
invariant-loop-class g l = map plain_begun l.nodes.items ≡ map plain_begun l.initial.nodes.items ++ map (with_child (rows_of l.table.found) l.opposites l.fn.states (plain_begun l.begun)) (take l.class-index l.class-items)
