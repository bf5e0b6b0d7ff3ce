use Rattle.std.proofs.Common.{sym, ◌∙◌}
use Rattle.record_label.proofs.Looking.{has_this, has_other}
use Rattle.record_label.proofs.lookups.has_field.Goals as goal

pub loop-field-preserved : goal.loop-field-preserved
loop-field-preserved c =
    has_other c.args.signature.now.fields.items c.loop-field.field-index c.field-item.result c.args.sort c.args.name.now (rw c.deref-field-items.ensures.value at c.loop-field-test.true) (rw c.deref-field-items.ensures.value at c.field-item.is) _ (sym c.if-eq.false ∙ c.eq.ensures) c.loop-field.invariant

pub returns-then-eq : goal.returns-then-eq
returns-then-eq c =
    has_this c.args.signature.now.fields.items c.loop-field.field-index c.field-item.result c.args.sort c.args.name.now (rw c.deref-field-items.ensures.value at c.loop-field-test.true) (rw c.deref-field-items.ensures.value at c.field-item.is) c.eq-then-eq.result _ (sym c.if-eq.true ∙ c.eq.ensures) c.eq-then-eq.ensures c.loop-field.invariant
