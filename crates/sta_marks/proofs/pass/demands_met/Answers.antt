use Rattle.std.proofs.Common.{sym, ◌∙◌, arith, drop}
use Rattle.sta_marks.specs.Rows.{rows_at}
use Rattle.sta_marks.proofs.Tried.{rows_meet_done}
use Rattle.sta_marks.proofs.pass.demands_met.Goals as goal

pub returns-then-i-demands : goal.returns-then-i-demands
returns-then-i-demands c =
    sym (rows_meet_done (λ d. d.items) (rows_at c.args.marks.now (drop c.loop-child.i c.args.children.now)) c.args.demands.now c.loop-child.i (omega arith)) ∙ c.loop-child.invariant.2
