use Rattle.std.proofs.Common.{◌≡◌, sym, ap, ◌∙◌}
use Rattle.read_forms.specs.Reads.{IsRead}
use Rattle.model_grammar.specs.Grammar.{IsInto}
use Rattle.label_reader.specs.Results.{left}
use Rattle.program_reader.specs.Goings.{arrow_word}
use Rattle.read_forms.proofs.Forms.{as_read, as_fails, then_read, then_fails, first_fails, ends_closed, closed_read, closed_fails, sample_pair, read_at}
use Rattle.fast_syntax.specs.View.{plain_name}
use Rattle.fast_syntax.specs.Plain.{plain_into}
use Rattle.program_reader.proofs.ItemForms.{def_makes, into_makes, into_none, sample_into, ends_into, sample_assigned}
use Rattle.label_reader.proofs.Exits.{exit}
use Rattle.label_reader.proofs.Keeping.{told_read, told_fails}
use Rattle.program_reader.proofs.items.read_def_item.Goals as goal
use Rattle.program_reader.proofs.items.read_def_item.Goals.{then-is_next+in_ok-names-2, else-is_next}

pub returns-in_err-names : goal.returns-in_err-names
returns-in_err-names c = exit _ _ _ _ c.from_residual.result c.from_residual.ensures.1 (as_fails _ (def_makes _ _) (first_fails _ (ends_closed _ _) (sample_pair sample_into sample_assigned) c.in_err-names.ensures))

pub returns-in_err-names-2 : goal.returns-in_err-names-2
returns-in_err-names-2 c = exit _ _ _ _ c.from_residual-in_err-names-2.result c.from_residual-in_err-names-2.ensures.1
    (as_fails _ (def_makes _ _) (then_fails _ (ends_closed _ _) c.in_ok-names.ensures (first_fails _ ends_into sample_assigned
    (as_fails _ (into_makes _ (c.is_next.ensures.yes c.if-is_next.true)) (closed_fails _ (told_fails _ _ _ c.in_err-names-2.ensures c.read_name_behind.ensures))))))

pub returns-in_err-name : goal.returns-in_err-name
returns-in_err-name c =
    let into : IsRead IsInto arrow_word (left c.read_typed.new.reader) (plain_into c.if-is_next.head.1) (left c.if-is_next.reader) = elim c.if-is_next.branch [
      | then-is_next+in_ok-names-2 w ↦ rw (w.head-is, w.reader-is) (as_read (into_makes _ (c.is_next.ensures.yes w.if-is_next.true)) (closed_read (told_read _ _ plain_name w.in_ok-names-2.ensures.1 w.read_name_behind.ensures)))
      | else-is_next w ↦ rw (w.head-is, w.reader-is) (into_none _ (c.is_next.ensures.no w.if-is_next.false))
    ] in
    exit _ _ _ _ c.from_residual-in_err-name.result c.from_residual-in_err-name.ensures.1
    (as_fails _ (def_makes _ _) (then_fails _ (ends_closed _ _) c.in_ok-names.ensures (then_fails _ ends_into into (told_fails _ _ _ c.in_err-name.ensures c.read_assigned.ensures))))

pub returns : goal.returns
returns c = let two = c.in_ok-name.ensures in
    let same : c.if-is_next.head.0 ≡ c.in_ok-names.names = elim c.if-is_next.branch [ then-is_next+in_ok-names-2 w ↦ ap (λ v. v.0) w.head-is ∙ w.in_ok-names-2.ensures.0 | else-is_next w ↦ ap (λ v. v.0) w.head-is ] in
    let into : IsRead IsInto arrow_word (left c.read_typed.new.reader) (plain_into c.if-is_next.head.1) (left c.if-is_next.reader) = elim c.if-is_next.branch [
      | then-is_next+in_ok-names-2 w ↦ rw (w.head-is, w.reader-is) (as_read (into_makes _ (c.is_next.ensures.yes w.if-is_next.true)) (closed_read (told_read _ _ plain_name w.in_ok-names-2.ensures.1 w.read_name_behind.ensures)))
      | else-is_next w ↦ rw (w.head-is, w.reader-is) (into_none _ (c.is_next.ensures.no w.if-is_next.false))
    ] in
    as_read (def_makes _ _) (then_read (ends_closed _ _) (read_at (ap (λ v. (plain_name v.0, plain_name v.1)) (sym (ap (λ v. v.0) two.0 ∙ same))) c.in_ok-names.ensures)
    (then_read ends_into (read_at (ap (λ v. plain_into v.1) (sym two.0)) into) (told_read _ _ _ two.1 c.read_assigned.ensures)))
