use Rattle.read_forms.proofs.Forms.{as_fails, first_fails, ends_closed}
use Rattle.read_forms.proofs.Fronts.{left_leaves, left_made, first_left}
use Rattle.fast_syntax.specs.Plain.{plain_claim}
use Rattle.label_reader.proofs.Exits.{exit, reads_as, sign_next}
use Rattle.label_reader.proofs.Keeping.{reads_to_close}
use Rattle.program_reader.proofs.Steps.{reads_left}
use Rattle.program_reader.proofs.AssertForms.{a_open_reads, a_plain_makes, b_open_reads, bracketed_makes, unbracketed_makes, compared_makes, sample_right}
use Rattle.program_reader.proofs.assertions.read_a.Goals as goal

pub returns-in_err-left : goal.returns-in_err-left
returns-in_err-left c = let no = c.is_next.ensures.no c.if-not-is_next.true in
    exit _ _ _ _ c.from_residual.result c.from_residual.ensures.1 (as_fails _ (a_plain_makes _ no) (as_fails _ (compared_makes _ no) (first_fails _ (ends_closed _ _) sample_right c.in_err-left.ensures)))

pub returns-then-not-is_next : goal.returns-then-not-is_next
returns-then-not-is_next c = let no = c.is_next.ensures.no c.if-not-is_next.true in
    reads_as _ _ _ _ (a_plain_makes _ no) (reads_left _ _ _ _ _ (left_leaves (left_made (compared_makes _ no)) (first_left (ends_closed _ _) c.in_ok-left.ensures)) c.read_compared.ensures)

pub returns-then-is_next : goal.returns-then-is_next
returns-then-is_next c = let next = c.is_next.ensures.yes c.if-not-is_next.false in let again = c.is_next-2.ensures.yes c.if-is_next.true in
    a_open_reads _ _ _ _ c.to_close.result next (sign_next c.args.reader.now next c.advance.ensures)
    (reads_to_close _ _ _ _ _ plain_claim _ c.to_close.result (b_open_reads _ _ _ _ c.read_b_inside.result again (sign_next c.advance.new.self again c.advance-then-is_next.ensures) c.read_b_inside.ensures) c.to_close.ensures (ends_closed _ _) (bracketed_makes _ again))

pub returns-then-is_next-2 : goal.returns-then-is_next-2
returns-then-is_next-2 c = let next = c.is_next.ensures.yes c.if-not-is_next.false in a_open_reads _ _ _ _ c.read_named.result next (sign_next c.args.reader.now next c.advance.ensures) c.read_named.ensures

pub returns : goal.returns
returns c = let next = c.is_next.ensures.yes c.if-not-is_next.false in a_open_reads _ _ _ _ c.read_b_inside-2.result next (sign_next c.args.reader.now next c.advance.ensures)
    (reads_as _ _ _ _ (unbracketed_makes _ (c.is_next-2.ensures.no c.if-is_next.false) (c.is_next-3.ensures.no c.if-is_next-2.false)) c.read_b_inside-2.ensures)
