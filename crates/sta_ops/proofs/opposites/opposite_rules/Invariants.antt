use Rattle.std.proofs.Common.{map}
use Rattle.model_sta.specs.Least.{rows_of}
use Rattle.sta_core.specs.Machine.{plain_rule}
use Rattle.sta_ops.proofs.NotRules.{AreMadeBelow}
use Rattle.sta_ops.proofs.opposites.opposite_rules.Given as goal

abbrev pub invariant-constructors : goal.invariant-constructors
invariant-constructors g l = AreMadeBelow l.opposites l.ranks (rows_of l.table.found) (map plain_rule l.rules) l.constructor (map plain_rule l.made.items)
