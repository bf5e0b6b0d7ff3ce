use Rattle.std.proofs.Common.{sym, ◌∙◌}
use Rattle.record_label.proofs.FormFacts.{no_fields, some_fields}
use Rattle.record_label.proofs.forms.is_constant.Goals as goal

pub returns-then-is_empty : goal.returns-then-is_empty
returns-then-is_empty c =
    c.is_empty-then-is_empty.ensures ∙ no_fields c.args.form.now c.fields.result.now c.remainders.result.now c.fields.ensures.value c.remainders.ensures.value (sym c.is_empty.ensures ∙ c.if-is_empty.true)

pub returns-else-is_empty : goal.returns-else-is_empty
returns-else-is_empty c = c.if-is_empty.false ∙ sym (some_fields c.args.form.now c.fields.result.now c.fields.ensures.value (sym c.is_empty.ensures ∙ c.if-is_empty.false))
