use Rattle.std.proofs.Common.{refl}
use Rattle.label_core.proofs.Elements.{made_more}
use Rattle.fast_tree.specs.declared.signature.FieldOf.{FieldOf}
use Rattle.fast_tree.specs.Signatures.{plain_sort}
use Rattle.record_label.proofs.CopyFacts.{all_made}
use Rattle.record_label.proofs.rows.sorts_of.Goals as goal

pub loop-field-preserved : goal.loop-field-preserved
loop-field-preserved c = made_more (λ (f : FieldOf). plain_sort f.sort) plain_sort c.args.fields.now c.loop-field.field-index c.field-item.result c.loop-field-test.true c.field-item.is c.loop-field.sorts.items c.push.new.self.items c.field-item.result.sort (c.in_ok-push.ensures {u = tt}).items c.loop-field.invariant refl

pub returns : goal.returns
returns c = all_made (λ (f : FieldOf). plain_sort f.sort) plain_sort c.args.fields.now c.loop-field.sorts.items c.loop-field.field-index c.loop-field.invariant c.loop-field-test.false
