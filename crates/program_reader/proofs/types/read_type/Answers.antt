use Rattle.std.proofs.Common.{map, sym, ap, ◌∙◌}
use Rattle.read_forms.proofs.Forms.{as_fails, as_read, then_fails, then_read, first_fails, ends_closed, sample_pair, read_at}
use Rattle.model_program.specs.Grammar.{AreFieldsOrNone, square_word}
use Rattle.label_reader.specs.Results.{left, Reads}
use Rattle.fast_syntax.specs.View.{plain_name, plain_field}
use Rattle.label_reader.proofs.Exits.{exit}
use Rattle.label_reader.proofs.Keeping.{told_read, told_fails}
use Rattle.program_reader.proofs.TypeForms.{type_makes, fields_read, fields_none, sample_fields, sample_ctors, ends_fields, field_item, ctor_item}
use Rattle.program_reader.proofs.types.read_type.Goals as goal
use Rattle.program_reader.proofs.types.read_type.Goals.{then-is_next, else-is_next}

pub read_any-fields-requires : goal.read_any-fields-requires
read_any-fields-requires c = field_item

pub returns-in_err-name : goal.returns-in_err-name
returns-in_err-name c = exit _ _ _ _ c.from_residual.result c.from_residual.ensures.1 (as_fails _ (type_makes _ _) (first_fails _ (ends_closed _ _) (sample_pair sample_fields sample_ctors) c.in_err-name.ensures))

pub returns-in_err-head : goal.returns-in_err-head
returns-in_err-head c = let fields : Reads AreFieldsOrNone square_word (left c.name.new.self) (left c.if-is_next.reader) (λ x. map plain_field x.items) c.if-is_next.fields = (elim c.if-is_next.branch [
  | then-is_next w ↦ rw (w.fields-is, w.reader-is) (fields_read _ _ _ w.read_any-fields.result (c.is_next.ensures.yes w.if-is_next.true) w.read_any-fields.ensures)
  | else-is_next w ↦ rw (w.fields-is, w.reader-is) (read_at (ap (λ l. map plain_field l) (sym w.new.ensures.items)) (fields_none _ (c.is_next.ensures.no w.if-is_next.false)))
]) in
    exit _ _ _ _ c.from_residual-in_err-head.result c.from_residual-in_err-head.ensures.1 (as_fails _ (type_makes _ _) (then_fails _ (ends_closed _ _) c.in_ok-name.ensures (first_fails _ ends_fields sample_ctors (told_fails _ _ _ c.in_err-head.ensures fields))))

pub returns-in_err-name-2 : goal.returns-in_err-name-2
returns-in_err-name-2 c = let fields : Reads AreFieldsOrNone square_word (left c.name.new.self) (left c.if-is_next.reader) (λ x. map plain_field x.items) c.if-is_next.fields = (elim c.if-is_next.branch [
  | then-is_next w ↦ rw (w.fields-is, w.reader-is) (fields_read _ _ _ w.read_any-fields.result (c.is_next.ensures.yes w.if-is_next.true) w.read_any-fields.ensures)
  | else-is_next w ↦ rw (w.fields-is, w.reader-is) (read_at (ap (λ l. map plain_field l) (sym w.new.ensures.items)) (fields_none _ (c.is_next.ensures.no w.if-is_next.false)))
]) in
    exit _ _ _ _ c.from_residual-in_err-name-2.result c.from_residual-in_err-name-2.ensures.1
    (as_fails _ (type_makes _ _) (then_fails _ (ends_closed _ _) c.in_ok-name.ensures (then_fails _ ends_fields (told_read _ _ (λ x. map plain_field x.items) c.in_ok-head.ensures.1 fields) (told_fails _ _ _ c.in_err-name-2.ensures c.read_some-ctors.ensures))))

pub returns : goal.returns
returns c = let one = c.in_ok-head.ensures in let two = c.in_ok-name-2.ensures in
    let fields : Reads AreFieldsOrNone square_word (left c.name.new.self) (left c.if-is_next.reader) (λ x. map plain_field x.items) c.if-is_next.fields = (elim c.if-is_next.branch [
      | then-is_next w ↦ rw (w.fields-is, w.reader-is) (fields_read _ _ _ w.read_any-fields.result (c.is_next.ensures.yes w.if-is_next.true) w.read_any-fields.ensures)
      | else-is_next w ↦ rw (w.fields-is, w.reader-is) (read_at (ap (λ l. map plain_field l) (sym w.new.ensures.items)) (fields_none _ (c.is_next.ensures.no w.if-is_next.false)))
    ]) in
    as_read (type_makes _ _) (then_read (ends_closed _ _) (read_at (ap plain_name (sym (ap (λ v. v.0) two.0 ∙ one.0))) c.in_ok-name.ensures)
    (then_read ends_fields (read_at (ap (λ v. map plain_field v.1.items) (sym two.0)) (told_read _ _ (λ x. map plain_field x.items) one.1 fields)) (told_read _ _ _ two.1 c.read_some-ctors.ensures)))

pub read_some-ctors-requires : goal.read_some-ctors-requires
read_some-ctors-requires c = ctor_item
