use Rattle.std.proofs.Common.{◌≡◌}
use Rattle.std.proofs.lemmas.Result.{IfOk-from_err}
use Rattle.label_core.proofs.Elements.{made_more}
use Rattle.record_label.specs.Written.{plain_written}
use Rattle.record_label.proofs.CopyFacts.{all_made, given_made}
use Rattle.record_label.proofs.copies.copy_written.Goals as goal

pub returns-in_err-added : goal.returns-in_err-added
returns-in_err-added c = IfOk-from_err c.from_residual.result _ c.from_residual.ensures.0

pub loop-one-preserved : goal.loop-one-preserved
loop-one-preserved c =
    let own = c.in_ok-added.ensures {u = tt} in
    made_more plain_written plain_written c.args.written.now c.loop-one.one-index c.one-item.result c.loop-one-test.true c.one-item.is c.loop-one.copies.items c.added.new.list.items own.0 own.2 c.loop-one.invariant (given_made c.copy.result (λ copy. copy.marks.items ≡ c.one-item.result.marks.items) own.0 own.1 c.copy.ensures)

pub returns : goal.returns
returns c = all_made plain_written plain_written c.args.written.now c.loop-one.copies.items c.loop-one.one-index c.loop-one.invariant c.loop-one-test.false
