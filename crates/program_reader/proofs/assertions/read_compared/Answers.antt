use Rattle.std.proofs.Common.{sym, ◌∙◌}
use Rattle.model_program.specs.Grammar.{IsSign}
use Rattle.read_forms.specs.Reads.{closed}
use Rattle.read_forms.proofs.Forms.{Makes, as_read, as_fails, then_read, then_fails, first_fails, ends_closed, read_at}
use Rattle.fast_syntax.specs.Plain.{plain_x}
use Rattle.label_reader.specs.Results.{left}
use Rattle.label_reader.proofs.Exits.{exit}
use Rattle.label_reader.proofs.Keeping.{told_read, told_fails}
use Rattle.program_reader.specs.Assertions.{IsRelation, related}
use Rattle.program_reader.proofs.XForms.{sample_x}
use Rattle.program_reader.proofs.AssertForms.{compare_makes, relation_known, same_makes, in_makes, element_makes}
use Rattle.program_reader.proofs.assertions.read_compared.Goals as goal
use Rattle.program_reader.proofs.assertions.read_compared.Goals.{then-equal, else-equal+then-is_next, else-equal+else-is_next}

pub returns-in_err-left : goal.returns-in_err-left
returns-in_err-left c =
    let makes : Makes (IsSign c.if-equal.sign) IsRelation (λ _. c.is_next-equal.result) closed (left c.args.reader.now) = elim c.if-equal.branch [
      | then-equal w ↦ relation_known w.sign-is w.if-equal.true (same_makes _ (c.is_next-equal.ensures.yes w.if-equal.true))
      | else-equal+then-is_next w ↦ relation_known w.sign-is w.if-equal.false (in_makes _ (w.is_next.ensures.yes w.if-is_next.true))
      | else-equal+else-is_next w ↦ relation_known w.sign-is w.if-equal.false (element_makes _ (c.is_next-equal.ensures.no w.if-equal.false) (w.is_next.ensures.no w.if-is_next.false))
    ] in
    exit _ _ _ _ c.from_residual.result c.from_residual.ensures.1 (as_fails _ (compare_makes _ _) (first_fails _ (ends_closed _ _) sample_x (as_fails _ makes (told_fails _ _ (λ _. tt) c.in_err-left.ensures c.sign.ensures))))

pub returns-in_err-left-2 : goal.returns-in_err-left-2
returns-in_err-left-2 c =
    let makes : Makes (IsSign c.if-equal.sign) IsRelation (λ _. c.is_next-equal.result) closed (left c.args.reader.now) = elim c.if-equal.branch [
      | then-equal w ↦ relation_known w.sign-is w.if-equal.true (same_makes _ (c.is_next-equal.ensures.yes w.if-equal.true))
      | else-equal+then-is_next w ↦ relation_known w.sign-is w.if-equal.false (in_makes _ (w.is_next.ensures.yes w.if-is_next.true))
      | else-equal+else-is_next w ↦ relation_known w.sign-is w.if-equal.false (element_makes _ (c.is_next-equal.ensures.no w.if-equal.false) (w.is_next.ensures.no w.if-is_next.false))
    ] in
    exit _ _ _ _ c.from_residual-in_err-left-2.result c.from_residual-in_err-left-2.ensures.1
    (as_fails _ (compare_makes _ _) (then_fails _ (ends_closed _ _) (as_read makes (told_read _ _ (λ _. tt) c.in_ok-left.ensures.1 c.sign.ensures)) (told_fails _ _ _ c.in_err-left-2.ensures c.read_x.ensures)))

pub returns-then-equal-2 : goal.returns-then-equal-2
returns-then-equal-2 c = let one = c.in_ok-left.ensures in let two = c.in_ok-left-2.ensures in
    let makes : Makes (IsSign c.if-equal.sign) IsRelation (λ _. c.is_next-equal.result) closed (left c.args.reader.now) = elim c.if-equal.branch [
      | then-equal w ↦ relation_known w.sign-is w.if-equal.true (same_makes _ (c.is_next-equal.ensures.yes w.if-equal.true))
      | else-equal+then-is_next w ↦ relation_known w.sign-is w.if-equal.false (in_makes _ (w.is_next.ensures.yes w.if-is_next.true))
      | else-equal+else-is_next w ↦ relation_known w.sign-is w.if-equal.false (element_makes _ (c.is_next-equal.ensures.no w.if-equal.false) (w.is_next.ensures.no w.if-is_next.false))
    ] in
    read_at ((λ i. related (plain_x (sym (two.0 ∙ one.0) i)) (c.if-equal-2.true i, plain_x c.in_ok-left-2.right)))
    (as_read (compare_makes (plain_x c.args.side) _) (then_read (ends_closed _ _) (as_read makes (told_read _ _ (λ _. tt) one.1 c.sign.ensures)) (told_read _ _ plain_x two.1 c.read_x.ensures)))

pub returns-else-equal-2 : goal.returns-else-equal-2
returns-else-equal-2 c = let one = c.in_ok-left.ensures in let two = c.in_ok-left-2.ensures in
    let makes : Makes (IsSign c.if-equal.sign) IsRelation (λ _. c.is_next-equal.result) closed (left c.args.reader.now) = elim c.if-equal.branch [
      | then-equal w ↦ relation_known w.sign-is w.if-equal.true (same_makes _ (c.is_next-equal.ensures.yes w.if-equal.true))
      | else-equal+then-is_next w ↦ relation_known w.sign-is w.if-equal.false (in_makes _ (w.is_next.ensures.yes w.if-is_next.true))
      | else-equal+else-is_next w ↦ relation_known w.sign-is w.if-equal.false (element_makes _ (c.is_next-equal.ensures.no w.if-equal.false) (w.is_next.ensures.no w.if-is_next.false))
    ] in
    read_at ((λ i. related (plain_x (sym (two.0 ∙ one.0) i)) (c.if-equal-2.false i, plain_x c.in_ok-left-2.right)))
    (as_read (compare_makes (plain_x c.args.side) _) (then_read (ends_closed _ _) (as_read makes (told_read _ _ (λ _. tt) one.1 c.sign.ensures)) (told_read _ _ plain_x two.1 c.read_x.ensures)))
