use Rattle.std.proofs.Common.{[]}
use Rattle.model_sta.specs.Least.{rows_at}
use Rattle.sta_core.specs.Machine.{plain_rule}
use Rattle.sta_classes.specs.Grow.{Grown}
use Rattle.sta_classes.proofs.Grown.{Before}
use Rattle.sta_ops.specs.Opposites.{Asks}
use Rattle.sta_ops.proofs.begun.asked_states.Given as goal

abbrev pub invariant-rules : goal.invariant-rules
invariant-rules g l = Grown [] l.asked.keys (Before (λ r s. Asks l.constructor (plain_rule r) (rows_at l.table.found l.children) s) l.rules l.rule-index)
