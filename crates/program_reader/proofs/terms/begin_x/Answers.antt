use Rattle.read_forms.proofs.Forms.{as_read, as_fails, then_fails, first_fails, ends_closed}
use Rattle.read_forms.proofs.Fronts.{none_left}
use Rattle.read_forms.proofs.Words.{sign_starts}
use Rattle.model_program.specs.declared.Word.TheVariants.{RoundOpen}
use Rattle.label_reader.proofs.Exits.{shorter}
use Rattle.program_reader.proofs.XForms.{named_makes, open_makes, sample_x_inside}
use Rattle.program_reader.proofs.Growing.{opened_begins, begins_exit, begins_behind, begins_shorter}
use Rattle.program_reader.specs.Nodes.{IsXInside}
use Rattle.program_reader.proofs.terms.begin_x.Goals as goal

pub returns-in_err-name-clause-begins : goal.returns-in_err-name-clause-begins
returns-in_err-name-clause-begins c = begins_exit _ _ _ c.from_residual.result c.from_residual.ensures.1 (as_fails _ (named_makes _ (c.is_next.ensures.yes c.if-is_next.true)) c.in_err-name.ensures)

pub returns-then-is_next-clause-begins : goal.returns-then-is_next-clause-begins
returns-then-is_next-clause-begins c = none_left (as_read (named_makes _ (c.is_next.ensures.yes c.if-is_next.true)) c.in_ok-name.ensures)

pub returns-in_err-sign-clause-begins : goal.returns-in_err-sign-clause-begins
returns-in_err-sign-clause-begins c = begins_exit _ _ _ c.from_residual-in_err-sign.result c.from_residual-in_err-sign.ensures.1 (as_fails _ (open_makes _ (c.is_next.ensures.no c.if-is_next.false)) (first_fails _ (ends_closed _ _) sample_x_inside c.in_err-sign.ensures))

pub returns-clause-begins : goal.returns-clause-begins
returns-clause-begins c = begins_behind _ _ _ _ (opened_begins (c.is_next.ensures.no c.if-is_next.false) c.in_ok-sign.ensures) (λ bad fails. as_fails _ (open_makes _ (c.is_next.ensures.no c.if-is_next.false)) (then_fails _ (ends_closed _ _) c.in_ok-sign.ensures fails)) c.begin_x_inside.ensures

pub returns-clause-shorter : goal.returns-clause-shorter
returns-clause-shorter c = begins_shorter IsXInside _ _ _ c.begin_x_inside.result (shorter _ _ _ (sign_starts RoundOpen) c.in_ok-sign.ensures) c.begin_x_inside.ensures
