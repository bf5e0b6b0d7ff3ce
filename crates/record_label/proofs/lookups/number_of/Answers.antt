use Rattle.std.proofs.Common.{true, false, sym, ◌∙◌}
use Rattle.record_label.proofs.Looking.{number_here, number_more}
use Rattle.record_label.proofs.lookups.number_of.Goals as goal
use Rattle.record_label.proofs.lookups.number_of.Goals.{then-eq-2, else-eq-2}

pub loop-field-preserved : goal.loop-field-preserved
loop-field-preserved c =
    let fields = c.args.signature.now.fields.items in
    let low = rw c.deref-field-items.ensures.value at c.loop-field-test.true in
    let is = rw c.deref-field-items.ensures.value at c.field-item.is in
    elim c.if-eq-2.branch [
      | then-eq-2 w ↦ number_more fields c.loop-field.field-index c.field-item.result c.args.sort c.args.name.now low is true c.loop-field.number c.if-eq-2.number _ (sym c.if-eq.false ∙ c.eq.ensures) (sym w.if-eq-2.true ∙ c.eq-in-loop-field.ensures) w.number-is c.loop-field.invariant
      | else-eq-2 w ↦ number_more fields c.loop-field.field-index c.field-item.result c.args.sort c.args.name.now low is false c.loop-field.number c.if-eq-2.number _ (sym c.if-eq.false ∙ c.eq.ensures) (sym w.if-eq-2.false ∙ c.eq-in-loop-field.ensures) w.number-is c.loop-field.invariant
    ]

pub returns-then-eq : goal.returns-then-eq
returns-then-eq c =
    number_here c.args.signature.now.fields.items c.loop-field.field-index c.field-item.result c.args.sort c.args.name.now (rw c.deref-field-items.ensures.value at c.loop-field-test.true) (rw c.deref-field-items.ensures.value at c.field-item.is) c.loop-field.number _ (sym c.if-eq.true ∙ c.eq.ensures) c.loop-field.invariant
