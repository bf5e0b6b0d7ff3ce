use Rattle.read_forms.proofs.Forms.{as_read, as_fails, first_fails, ends_closed}
use Rattle.label_reader.proofs.Exits.{exit}
use Rattle.program_reader.proofs.Steps.{reads_left}
use Rattle.program_reader.proofs.XForms.{named_makes, open_makes, sample_x_inside}
use Rattle.program_reader.proofs.Growing.{opened_begins}
use Rattle.program_reader.proofs.terms.read_x.Goals as goal

pub returns-in_err-name : goal.returns-in_err-name
returns-in_err-name c = exit _ _ _ _ c.from_residual.result c.from_residual.ensures.1 (as_fails _ (named_makes _ (c.is_next.ensures.yes c.if-is_next.true)) c.in_err-name.ensures)

pub returns-then-is_next : goal.returns-then-is_next
returns-then-is_next c = as_read (named_makes _ (c.is_next.ensures.yes c.if-is_next.true)) c.in_ok-name.ensures

pub returns-in_err-sign : goal.returns-in_err-sign
returns-in_err-sign c = exit _ _ _ _ c.from_residual-in_err-sign.result c.from_residual-in_err-sign.ensures.1 (as_fails _ (open_makes _ (c.is_next.ensures.no c.if-is_next.false)) (first_fails _ (ends_closed _ _) sample_x_inside c.in_err-sign.ensures))

pub returns : goal.returns
returns c = reads_left _ _ _ _ _ (opened_begins (c.is_next.ensures.no c.if-is_next.false) c.in_ok-sign.ensures) c.read_x_inside.ensures
