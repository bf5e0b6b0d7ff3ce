use Rattle.read_forms.proofs.Forms.{then_read, then_fails, first_fails, ends_closed}
use Rattle.label_reader.proofs.Exits.{exit}
use Rattle.label_reader.proofs.Keeping.{reads_kept}
use Rattle.program_reader.proofs.NameForms.{sample_behind}
use Rattle.program_reader.proofs.items.read_typed.Goals as goal

pub returns-in_err-name : goal.returns-in_err-name
returns-in_err-name c = exit _ _ _ _ c.from_residual.result c.from_residual.ensures.1 (first_fails _ (ends_closed _ _) (sample_behind _) c.in_err-name.ensures)

pub returns : goal.returns
returns c = reads_kept _ _ _ _ _ _ _ c.kept.ensures c.read_name_behind.ensures
    (λ of read. then_read (ends_closed _ _) c.in_ok-name.ensures read)
    (λ bad fails. then_fails _ (ends_closed _ _) c.in_ok-name.ensures fails)
