use Rattle.std.proofs.Common.{sym, ap, ◌∙◌}
use Rattle.read_forms.proofs.Forms.{as_read, as_fails, then_read, then_fails, first_fails, ends_closed, sample_pair, read_at}
use Rattle.read_forms.proofs.Words.{sample_sign}
use Rattle.read_forms.proofs.Fronts.{left_leaves, left_made, first_left}
use Rattle.label_reader.proofs.Exits.{exit, sign_next}
use Rattle.label_reader.proofs.Keeping.{told_read, told_fails, reads_kept_if}
use Rattle.fast_syntax.specs.Plain.{plain_x}
use Rattle.program_reader.proofs.Steps.{reads_left}
use Rattle.program_reader.proofs.XForms.{sample_x}
use Rattle.program_reader.proofs.AssertForms.{empty_makes, check_makes, inside_makes, sample_right}
use Rattle.program_reader.proofs.assertions.read_b_inside.Goals as goal

pub returns-in_err-x : goal.returns-in_err-x
returns-in_err-x c = let next = c.is_next.ensures.yes c.if-is_next.true in
    exit _ _ _ _ c.from_residual.result c.from_residual.ensures.1 (as_fails _ (empty_makes _ next) (then_fails _ (ends_closed _ _) (sign_next c.args.reader.now next c.advance.ensures) (first_fails _ (ends_closed _ _) (sample_sign _) c.in_err-x.ensures)))

pub returns-then-is_next : goal.returns-then-is_next
returns-then-is_next c = let next = c.is_next.ensures.yes c.if-is_next.true in reads_kept_if _ _ _ _ _ _ _ c.kept_if.ensures c.sign.ensures
    (λ read. as_read (empty_makes _ next) (then_read (ends_closed _ _) (sign_next c.args.reader.now next c.advance.ensures) (then_read (ends_closed _ _) c.in_ok-x.ensures read)))
    (λ bad fails. as_fails _ (empty_makes _ next) (then_fails _ (ends_closed _ _) (sign_next c.args.reader.now next c.advance.ensures) (then_fails _ (ends_closed _ _) c.in_ok-x.ensures fails)))

pub returns-in_err-x-2 : goal.returns-in_err-x-2
returns-in_err-x-2 c = let next = c.is_next-2.ensures.yes c.if-is_next-2.true in
    exit _ _ _ _ c.from_residual-in_err-x-2.result c.from_residual-in_err-x-2.ensures.1 (as_fails _ (check_makes _ next) (then_fails _ (ends_closed _ _) (sign_next c.args.reader.now next c.advance-then-is_next-2.ensures) (first_fails _ (ends_closed _ _) (sample_pair sample_x (sample_pair sample_x (sample_sign _))) c.in_err-x-2.ensures)))

pub returns-in_err-two : goal.returns-in_err-two
returns-in_err-two c = let next = c.is_next-2.ensures.yes c.if-is_next-2.true in
    exit _ _ _ _ c.from_residual-in_err-two.result c.from_residual-in_err-two.ensures.1
    (as_fails _ (check_makes _ next) (then_fails _ (ends_closed _ _) (sign_next c.args.reader.now next c.advance-then-is_next-2.ensures) (then_fails _ (ends_closed _ _) c.in_ok-x-2.ensures (first_fails _ (ends_closed _ _) (sample_pair sample_x (sample_sign _)) (told_fails _ _ _ c.in_err-two.ensures c.read_x-then-is_next-2-2.ensures)))))

pub returns-in_err-x-3 : goal.returns-in_err-x-3
returns-in_err-x-3 c = let next = c.is_next-2.ensures.yes c.if-is_next-2.true in
    exit _ _ _ _ c.from_residual-in_err-x-3.result c.from_residual-in_err-x-3.ensures.1
    (as_fails _ (check_makes _ next) (then_fails _ (ends_closed _ _) (sign_next c.args.reader.now next c.advance-then-is_next-2.ensures) (then_fails _ (ends_closed _ _) c.in_ok-x-2.ensures (then_fails _ (ends_closed _ _) (told_read _ _ _ c.in_ok-two.ensures.1 c.read_x-then-is_next-2-2.ensures) (first_fails _ (ends_closed _ _) (sample_sign _) (told_fails _ _ _ c.in_err-x-3.ensures c.read_x-then-is_next-2-3.ensures))))))

pub returns-then-is_next-2 : goal.returns-then-is_next-2
returns-then-is_next-2 c = let next = c.is_next-2.ensures.yes c.if-is_next-2.true in let one = c.in_ok-two.ensures in let two = c.in_ok-x-3.ensures in reads_kept_if _ _ _ _ _ _ _ c.kept_if-then-is_next-2.ensures c.sign-then-is_next-2.ensures
    (λ read. as_read (check_makes _ next) (then_read (ends_closed _ _) (sign_next c.args.reader.now next c.advance-then-is_next-2.ensures) (then_read (ends_closed _ _) (read_at (ap plain_x (sym (ap (λ v. v.0) two.0 ∙ one.0))) c.in_ok-x-2.ensures)
    (then_read (ends_closed _ _) (read_at (ap (λ v. plain_x v.1) (sym two.0)) (told_read _ _ _ one.1 c.read_x-then-is_next-2-2.ensures)) (then_read (ends_closed _ _) (told_read _ _ _ two.1 c.read_x-then-is_next-2-3.ensures) read)))))
    (λ bad fails. as_fails _ (check_makes _ next) (then_fails _ (ends_closed _ _) (sign_next c.args.reader.now next c.advance-then-is_next-2.ensures) (then_fails _ (ends_closed _ _) c.in_ok-x-2.ensures
    (then_fails _ (ends_closed _ _) (told_read _ _ _ one.1 c.read_x-then-is_next-2-2.ensures) (then_fails _ (ends_closed _ _) (told_read _ _ _ two.1 c.read_x-then-is_next-2-3.ensures) fails)))))

pub returns-in_err-left : goal.returns-in_err-left
returns-in_err-left c = exit _ _ _ _ c.from_residual-in_err-left.result c.from_residual-in_err-left.ensures.1 (as_fails _ (inside_makes _ (c.is_next.ensures.no c.if-is_next.false) (c.is_next-2.ensures.no c.if-is_next-2.false)) (first_fails _ (ends_closed _ _) sample_right c.in_err-left.ensures))

pub returns : goal.returns
returns c = reads_left _ _ _ _ _ (left_leaves (left_made (inside_makes _ (c.is_next.ensures.no c.if-is_next.false) (c.is_next-2.ensures.no c.if-is_next-2.false))) (first_left (ends_closed _ _) c.in_ok-left.ensures)) c.read_compared.ensures
