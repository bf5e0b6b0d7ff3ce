use Rattle.std.proofs.Common.{sym, ap, ◌∙◌}
use Rattle.read_forms.proofs.Forms.{as_fails, as_read, then_fails, then_read, first_fails, ends_closed, read_at}
use Rattle.read_forms.proofs.Words.{word_read, word_refused}
use Rattle.fast_syntax.specs.View.{plain_name}
use Rattle.label_reader.specs.declared.stop.Stop.TheVariants.{Memory}
use Rattle.label_reader.proofs.Exits.{exit, stepped}
use Rattle.label_reader.proofs.Keeping.{told_ok}
use Rattle.program_reader.proofs.TypeForms.{field_makes, sort_makes, sample_sort}
use Rattle.program_reader.proofs.types.FieldsItems.read_item.Goals as goal

pub returns-in_err-name : goal.returns-in_err-name
returns-in_err-name c = exit _ _ _ _ c.from_residual.result c.from_residual.ensures.1 (as_fails _ (field_makes _ _) (first_fails _ (ends_closed _ _) sample_sort c.in_err-name.ensures))

pub returns-in_default : goal.returns-in_default
returns-in_default c = as_fails _ (field_makes _ _) (then_fails _ (ends_closed _ _) c.in_ok-name.ensures (as_fails _ (sort_makes _ _) (record { why = word_refused _ _ c.in_default.ensures })))

pub returns-in_err-name-2 : goal.returns-in_err-name-2
returns-in_err-name-2 c = exit _ _ _ Memory c.from_residual-in_err-name-2.result c.from_residual-in_err-name-2.ensures.1 (record { why = tt })

pub returns : goal.returns
returns c = let e = c.in_ok-name-2.ensures in let t = stepped _ c.in-Some.ensures c.advance.ensures in
    as_read (field_makes _ _) (then_read (ends_closed _ _) (read_at (ap plain_name (sym e.0)) c.in_ok-name.ensures)
    (read_at (ap (λ l. record { text = l; place = c.in-Some.id.place }) (sym (told_ok _ e.1 c.of.ensures ∙ c.sort_name.ensures))) (as_read (sort_makes _ _) (word_read _ _ _ _ t.0 t.1))))
