use Rattle.std.proofs.Common.{◌≡◌}
use Rattle.std.proofs.lemmas.Result.{IfOk-from_err}
use Rattle.label_core.proofs.Elements.{made_more}
use Rattle.record_label.specs.PlainMaps.{plain_entry}
use Rattle.record_label.proofs.CopyFacts.{all_made, given_made}
use Rattle.record_label.proofs.copies.copy_entries.Goals as goal

pub returns-in_err-added : goal.returns-in_err-added
returns-in_err-added c = IfOk-from_err c.from_residual.result _ c.from_residual.ensures.0

pub loop-entry-preserved : goal.loop-entry-preserved
loop-entry-preserved c =
    let own = c.in_ok-added.ensures {u = tt} in
    made_more plain_entry plain_entry c.args.entries.now c.loop-entry.entry-index c.entry-item.result c.loop-entry-test.true c.entry-item.is c.loop-entry.copies.items c.added.new.list.items own.0 own.2 c.loop-entry.invariant (given_made c.copy_entry.result (λ copy. plain_entry copy ≡ plain_entry c.entry-item.result) own.0 own.1 c.copy_entry.ensures)

pub returns : goal.returns
returns c = all_made plain_entry plain_entry c.args.entries.now c.loop-entry.copies.items c.loop-entry.entry-index c.loop-entry.invariant c.loop-entry-test.false
