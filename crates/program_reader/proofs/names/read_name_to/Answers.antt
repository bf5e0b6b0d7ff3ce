use Rattle.read_forms.proofs.Forms.{as_read, as_fails, then_read, then_fails, first_fails, ends_closed}
use Rattle.read_forms.proofs.Words.{sample_sign}
use Rattle.label_reader.proofs.Exits.{exit}
use Rattle.label_reader.proofs.Keeping.{reads_kept_if}
use Rattle.program_reader.proofs.NameForms.{name_to_makes}
use Rattle.program_reader.proofs.names.read_name_to.Goals as goal

pub returns-in_err-name : goal.returns-in_err-name
returns-in_err-name c = exit _ _ _ _ c.from_residual.result c.from_residual.ensures.1 (as_fails _ (name_to_makes _ _) (first_fails _ (ends_closed _ _) (sample_sign _) c.in_err-name.ensures))

pub returns : goal.returns
returns c = reads_kept_if _ _ _ _ _ _ _ c.kept_if.ensures c.sign.ensures
    (λ read. as_read (name_to_makes _ _) (then_read (ends_closed _ _) c.in_ok-name.ensures read))
    (λ bad fails. as_fails _ (name_to_makes _ _) (then_fails _ (ends_closed _ _) c.in_ok-name.ensures fails))
