use Rattle.std.proofs.Common.{◌≡◌, ◌++◌, map, take}
use Rattle.model_sta.specs.Least.{rows_of}
use Rattle.sta_core.specs.Machine.{plain_rule}
use Rattle.sta_ops.specs.Opposites.{plain_begun, rules_for}
use Rattle.sta_ops.proofs.opposites.add_rules.Given as goal

abbrev pub invariant-nodes : goal.invariant-nodes
invariant-nodes g l = map plain_rule l.made.items ≡ map plain_rule l.initial.made.items ++ rules_for (rows_of l.table.found) (map plain_rule l.rules) l.constructor (map plain_begun (take l.node-index l.nodes))
