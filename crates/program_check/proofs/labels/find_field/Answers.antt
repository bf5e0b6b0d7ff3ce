use Rattle.std.proofs.Common.{◌≡◌, ◌+◌, cond, sym, ap, ◌∙◌}
use Rattle.program_check.proofs.FieldLookup.{at_start, goes_on, is_found, is_nowhere}
use Rattle.program_check.proofs.labels.find_field.Goals as goal
use Rattle.program_check.proofs.labels.find_field.Goals.{then-is_whole, else-is_whole}

pub fields-init : goal.fields-init
fields-init c = at_start c.args.fields.now c.args.name.now

pub returns-then-eq : goal.returns-then-eq
returns-then-eq c = is_found c.args.fields.now c.args.name.now c.fields.field-index c.fields.number c.field-item.result c.sort_named-sort.result c.fields-test.true c.field-item.is c.sort_named-sort.ensures (sym c.eq.ensures ∙ c.if-eq.true) c.fields.invariant

pub fields-preserved : goal.fields-preserved
fields-preserved c =
    let n = c.fields.number in
    let counted : c.if-is_whole.number ≡ cond c.is_whole.result (n + 1) n = elim c.if-is_whole.branch [
      | then-is_whole w ↦ w.number-is ∙ ap (λ b. cond b (n + 1) n) (sym w.if-is_whole.true)
      | else-is_whole w ↦ w.number-is ∙ ap (λ b. cond b (n + 1) n) (sym w.if-is_whole.false)
    ] in
    goes_on c.args.fields.now c.args.name.now c.fields.field-index n c.if-is_whole.number c.field-item.result c.sort_named-sort.result c.is_whole.result c.fields-test.true c.field-item.is c.sort_named-sort.ensures (sym c.eq.ensures ∙ c.if-eq.false) c.is_whole.ensures counted c.fields.invariant

pub returns : goal.returns
returns c = is_nowhere c.args.fields.now c.args.name.now c.fields.field-index c.fields.number c.fields-test.false c.fields.invariant
