use Rattle.std.proofs.Common.{sym, ap, ◌∙◌, map}
use Rattle.read_forms.proofs.Forms.{as_fails, then_fails, first_fails, ends_closed, sample_pair, read_at}
use Rattle.label_reader.proofs.Exits.{exit}
use Rattle.label_reader.proofs.Keeping.{told_read, told_fails, reads_to_close}
use Rattle.fast_syntax.specs.View.{plain_name}
use Rattle.fast_syntax.specs.Plain.{plain_expr, plain_claim}
use Rattle.program_reader.proofs.Steps.{reads_left}
use Rattle.program_reader.proofs.XForms.{sample_xs, x_item}
use Rattle.program_reader.proofs.Rows.{plain_literal}
use Rattle.program_reader.proofs.AssertForms.{name_makes, name_left, tree_makes, tree_left, behind_makes, sample_behind_name, sample_right}
use Rattle.program_reader.proofs.assertions.read_named.Goals as goal

pub read_to-children-requires : goal.read_to-children-requires
read_to-children-requires c = x_item

pub returns-in_err-name : goal.returns-in_err-name
returns-in_err-name c = exit _ _ _ _ c.from_residual.result c.from_residual.ensures.1 (as_fails _ (name_makes _ c.requires) (first_fails _ (ends_closed _ _) sample_behind_name c.in_err-name.ensures))

pub returns-in_err-head : goal.returns-in_err-head
returns-in_err-head c = exit _ _ _ _ c.from_residual-in_err-head.result c.from_residual-in_err-head.ensures.1 (as_fails _ (name_makes _ c.requires) (then_fails _ (ends_closed _ _) c.in_ok-name.ensures (as_fails _ (tree_makes _ (c.is_next.ensures.yes c.if-is_next.true)) (first_fails _ (ends_closed _ _) (sample_pair sample_xs sample_right) (told_fails _ _ _ c.in_err-head.ensures c.read_labels.ensures)))))

pub returns-in_err-name-2 : goal.returns-in_err-name-2
returns-in_err-name-2 c = exit _ _ _ _ c.from_residual-in_err-name-2.result c.from_residual-in_err-name-2.ensures.1
    (as_fails _ (name_makes _ c.requires) (then_fails _ (ends_closed _ _) c.in_ok-name.ensures (as_fails _ (tree_makes _ (c.is_next.ensures.yes c.if-is_next.true)) (then_fails _ (ends_closed _ _) (told_read _ _ _ c.in_ok-head.ensures.1 c.read_labels.ensures) (first_fails _ (ends_closed _ _) sample_right (told_fails _ _ _ c.in_err-name-2.ensures c.read_to-children.ensures))))))

pub returns-then-is_next : goal.returns-then-is_next
returns-then-is_next c = let one = c.in_ok-head.ensures in let two = c.in_ok-name-2.ensures in
    reads_left _ _ _ _ _ (tree_left _ (plain_literal c.in_ok-name-2.name c.in_ok-name-2.labels c.in_ok-name-2.children) c.requires (read_at (ap plain_name (sym (ap (λ v. v.0) two.0 ∙ one.0))) c.in_ok-name.ensures) (c.is_next.ensures.yes c.if-is_next.true)
    (read_at (ap (λ v. map plain_expr v.1.items) (sym two.0)) (told_read _ _ _ one.1 c.read_labels.ensures)) (told_read _ _ _ two.1 c.read_to-children.ensures)) c.read_compared.ensures

pub returns : goal.returns
returns c = reads_left _ _ _ _ _ (name_left c.requires c.in_ok-name.ensures) (reads_to_close _ _ _ _ _ plain_claim _ c.to_close.result c.read_compared-2.ensures c.to_close.ensures (ends_closed _ _) (behind_makes _ _ (c.is_next.ensures.no c.if-is_next.false)))
