use Rattle.std.proofs.Common.{map, sym, ap, ◌∙◌, ◌∷◌, [], arith}
use Rattle.std.proofs.lemmas.List.{map-append}
use Rattle.model_program.specs.declared.Word.TheVariants.{RoundOpen, RoundClose}
use Rattle.read_forms.specs.Parts.{other_than}
use Rattle.read_forms.proofs.Forms.{as_read, as_fails, then_read, then_fails, first_fails, ends_closed, read_at}
use Rattle.model_grammar.specs.Terms.{IsOut}
use Rattle.fast_syntax.specs.View.{plain_name}
use Rattle.fast_syntax.specs.Plain.{plain_expr, plain_out}
use Rattle.label_reader.proofs.Exits.{exit, shorter, not_longer, sign_next}
use Rattle.label_reader.proofs.Keeping.{told_read, told_fails, made_fails}
use Rattle.label_reader.proofs.Closings.{closing_begins, closing_more, closing_more_fails, closing_read}
use Rattle.program_reader.proofs.NameForms.{behind_starts}
use Rattle.program_reader.proofs.OutForms.{child_makes, opened_makes, call_makes, node_makes, outs_closable, sample_outs, sample_behind}
use Rattle.program_reader.proofs.Rows.{plain_made}
use Rattle.program_reader.proofs.outputs.+output.Goals as goal

pub read_out-returns-in_err-name : goal.read_out-returns-in_err-name
read_out-returns-in_err-name t c = exit _ _ _ _ c.from_residual.result c.from_residual.ensures.1 (as_fails _ (child_makes _ (c.is_next.ensures.yes c.if-is_next.true)) c.in_err-name.ensures)

pub read_out-returns-then-is_next : goal.read_out-returns-then-is_next
read_out-returns-then-is_next t c = as_read (child_makes _ (c.is_next.ensures.yes c.if-is_next.true)) c.in_ok-name.ensures

pub read_out-returns-in_err-name-2 : goal.read_out-returns-in_err-name-2
read_out-returns-in_err-name-2 t c = exit _ _ _ _ c.from_residual-in_err-name-2.result c.from_residual-in_err-name-2.ensures.1 (as_fails _ (opened_makes _ (c.is_next.ensures.no c.if-is_next.false)) (first_fails _ (ends_closed _ _) sample_behind c.in_err-name-2.ensures))

pub read_out-returns-in_err-name-3 : goal.read_out-returns-in_err-name-3
read_out-returns-in_err-name-3 t c = exit _ _ _ _ c.from_residual-in_err-name-3.result c.from_residual-in_err-name-3.ensures.1
    (as_fails _ (opened_makes _ (c.is_next.ensures.no c.if-is_next.false)) (then_fails _ (ends_closed _ _) c.in_ok-name-2.ensures (as_fails _ (call_makes _ (c.is_next-2.ensures.yes c.if-is_next-2.true)) (told_fails _ _ _ c.in_err-name-3.ensures c.read_name_to.ensures))))

pub read_out-returns-then-is_next-2 : goal.read_out-returns-then-is_next-2
read_out-returns-then-is_next-2 t c = let e = c.in_ok-name-3.ensures in
    as_read (opened_makes _ (c.is_next.ensures.no c.if-is_next.false)) (then_read (ends_closed _ _) (read_at (ap plain_name (sym e.0)) c.in_ok-name-2.ensures) (as_read (call_makes _ (c.is_next-2.ensures.yes c.if-is_next-2.true)) (told_read _ _ _ e.1 c.read_name_to.ensures)))

pub read_out-returns-in_err-head : goal.read_out-returns-in_err-head
read_out-returns-in_err-head t c = exit _ _ _ _ c.from_residual-in_err-head.result c.from_residual-in_err-head.ensures.1
    (as_fails _ (opened_makes _ (c.is_next.ensures.no c.if-is_next.false)) (then_fails _ (ends_closed _ _) c.in_ok-name-2.ensures (as_fails _ (node_makes _ (c.is_next-2.ensures.no c.if-is_next-2.false)) (first_fails _ (ends_closed _ _) sample_outs (told_fails _ _ _ c.in_err-head.ensures c.read_labels.ensures)))))

pub read_out-returns-in_err-name-4 : goal.read_out-returns-in_err-name-4
read_out-returns-in_err-name-4 t c = exit _ _ _ _ c.from_residual-in_err-name-4.result c.from_residual-in_err-name-4.ensures.1
    (as_fails _ (opened_makes _ (c.is_next.ensures.no c.if-is_next.false)) (then_fails _ (ends_closed _ _) c.in_ok-name-2.ensures (as_fails _ (node_makes _ (c.is_next-2.ensures.no c.if-is_next-2.false)) (then_fails _ (ends_closed _ _) (told_read _ _ _ c.in_ok-head.ensures.1 c.read_labels.ensures) (told_fails _ _ _ c.in_err-name-4.ensures c.read_outs.ensures)))))

pub read_out-returns : goal.read_out-returns
read_out-returns t c = let one = c.in_ok-head.ensures in let two = c.in_ok-name-4.ensures in
    read_at (sym (plain_made c.in_ok-name-4.name c.in_ok-name-4.labels c.in_ok-name-4.children)) (as_read (opened_makes _ (c.is_next.ensures.no c.if-is_next.false))
    (then_read (ends_closed _ _) (read_at (ap plain_name (sym (ap (λ v. v.0) two.0 ∙ one.0))) c.in_ok-name-2.ensures) (as_read (node_makes _ (c.is_next-2.ensures.no c.if-is_next-2.false))
    (then_read (ends_closed _ _) (read_at (ap (λ v. map plain_expr v.1.items) (sym two.0)) (told_read _ _ _ one.1 c.read_labels.ensures)) (told_read _ _ _ two.1 c.read_outs.ensures)))))

pub read_out-read_outs-requires : goal.read_out-read_outs-requires
read_out-read_outs-requires t c = let a = shorter _ _ _ (behind_starts RoundOpen) c.in_ok-name-2.ensures in let b = not_longer _ _ (told_read _ _ _ c.in_ok-head.ensures.1 c.read_labels.ensures) in (omega (arith, a, b, c.decreases), tt)

pub read_outs-items-init : goal.read_outs-items-init
read_outs-items-init t c = (closing_begins IsOut RoundClose _ _ (ap (λ l. map plain_out l) c.new-all.ensures.items), omega arith)

pub read_outs-returns-in_err-all : goal.read_outs-returns-in_err-all
read_outs-returns-in_err-all t c = exit _ _ _ _ c.from_residual.result c.from_residual.ensures.1 (made_fails _ _ _ plain_out _ _ c.read_out.ensures c.in_err-all.ensures (λ bad fails. closing_more_fails IsOut RoundClose _ outs_closable c.items.invariant.0 (c.is_next.ensures.no c.items-test.true) fails))

pub read_outs-items-smaller : goal.read_outs-items-smaller
read_outs-items-smaller t c = shorter (other_than RoundClose) _ _ outs_closable.apart (told_read _ _ plain_out c.in_ok-all.ensures.1 c.read_out.ensures)

pub read_outs-items-preserved : goal.read_outs-items-preserved
read_outs-items-preserved t c = let k = c.in_ok-all.ensures in let read = told_read _ _ plain_out k.1 c.read_out.ensures in let a = not_longer _ _ read in let b = c.items.invariant.1 in (
  closing_more IsOut RoundClose (λ l. l) _ _ outs_closable c.items.invariant.0 (c.is_next.ensures.no c.items-test.true) read (ap (λ l. map plain_out l) k.2 ∙ map-append plain_out c.items.all.items (k.0 ∷ [])),
  omega (arith, a, b),
)

pub read_outs-returns : goal.read_outs-returns
read_outs-returns t c = let next = c.is_next.ensures.yes c.items-test.false in closing_read IsOut RoundClose (λ l. l) _ outs_closable c.items.invariant.0 next (sign_next c.items.reader next c.advance.ensures)
