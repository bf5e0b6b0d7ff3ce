use Rattle.std.proofs.Common.{sym, ◌∙◌, arith, drop}
use Rattle.model_sta.specs.Least.{rows_at}
use Rattle.sta_classes.proofs.Rows.{rows_meet_done}
use Rattle.sta_min.proofs.steps.demands_met.Goals as goal

pub returns-then-i-demands : goal.returns-then-i-demands
returns-then-i-demands g c =
    sym (rows_meet_done (λ d. d.items) (rows_at c.args.table.now.found (drop c.loop-child.i c.args.children.now)) c.args.demands.now c.loop-child.i (omega arith)) ∙ c.loop-child.invariant.2
