use Rattle.std.proofs.Common.{◌≡◌, ◌∙◌}
use Rattle.std.proofs.lemmas.List.{take_all}
use Rattle.std.proofs.lemmas.Result.{IfOk-from_err}
use Rattle.record_label.proofs.CopyFacts.{given_made, same_more}
use Rattle.record_label.proofs.written.Written.copy.Goals as goal

pub returns-in_err-added : goal.returns-in_err-added
returns-in_err-added c = IfOk-from_err c.from_residual.result _ c.from_residual.ensures.0

pub loop-mark-preserved : goal.loop-mark-preserved
loop-mark-preserved c =
    let own = c.in_ok-added.ensures {u = tt} in
    same_more c.deref-mark-items.result.now c.loop-mark.mark-index c.mark-item.result c.loop-mark-test.true c.mark-item.is c.loop-mark.marks.items c.added.new.list.items own.0 own.2 c.loop-mark.invariant (given_made c.copy.result (λ copy. copy ≡ c.mark-item.result) own.0 own.1 c.copy.ensures)

pub returns : goal.returns
returns c = c.loop-mark.invariant ∙ take_all c.loop-mark.mark-index c.deref-mark-items.result.now c.loop-mark-test.false ∙ c.deref-mark-items.ensures.value
