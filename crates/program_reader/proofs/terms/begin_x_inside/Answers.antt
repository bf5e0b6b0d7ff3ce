use Rattle.std.proofs.Common.{subst, map, List, sym, ap}
use Rattle.read_forms.specs.Reads.{closed}
use Rattle.read_forms.specs.Fronts.{Leaves}
use Rattle.read_forms.proofs.Forms.{as_fails, then_fails, first_fails, ends_closed, sample_pair, read_at}
use Rattle.read_forms.proofs.Fronts.{left_leaves}
use Rattle.fast_syntax.specs.declared.items.X.{X}
use Rattle.fast_syntax.specs.View.{plain_name}
use Rattle.fast_syntax.specs.Plain.{plain_expr, plain_x}
use Rattle.label_reader.specs.Results.{left}
use Rattle.label_reader.proofs.Keeping.{told_read, told_fails}
use Rattle.program_reader.specs.Growing.{IsRow, IsLeft}
use Rattle.program_reader.proofs.RowForms.{sample_labels}
use Rattle.program_reader.proofs.XForms.{literal_makes, sample_xs}
use Rattle.program_reader.proofs.Growing.{told_front, one_found, two_found, literal_begins, begins_exit}
use Rattle.program_reader.proofs.terms.begin_x_inside.Goals as goal

pub returns-in-One : goal.returns-in-One
returns-in-One c = one_found (told_front _ _ _ c.in-One.is c.front_next.ensures) c.advance.ensures

pub returns-in-Two : goal.returns-in-Two
returns-in-Two c = two_found (told_front _ _ _ c.in-Two.is c.front_next.ensures) c.advance-in-Two.ensures

pub returns-in_err-name-in-Tree : goal.returns-in_err-name-in-Tree
returns-in_err-name-in-Tree c = let no = told_front _ _ _ c.in-Tree.is c.front_next.ensures in begins_exit _ _ _ c.from_residual.result c.from_residual.ensures.1 (as_fails _ (literal_makes _ no.0 no.1) (first_fails _ (ends_closed _ _) (sample_pair sample_labels sample_xs) c.in_err-name-in-Tree.ensures))

pub returns-in_err-name-in-Tree-2 : goal.returns-in_err-name-in-Tree-2
returns-in_err-name-in-Tree-2 c = let no = told_front _ _ _ c.in-Tree.is c.front_next.ensures in begins_exit _ _ _ c.from_residual-in_err-name-in-Tree-2.result c.from_residual-in_err-name-in-Tree-2.ensures.1
    (as_fails _ (literal_makes _ no.0 no.1) (then_fails _ (ends_closed _ _) c.in_ok-name-in-Tree.ensures (first_fails _ (ends_closed _ _) sample_xs (told_fails _ _ _ c.in_err-name-in-Tree-2.ensures c.read_labels.ensures))))

pub returns-in_ok-name-in-Tree-2 : goal.returns-in_ok-name-in-Tree-2
returns-in_ok-name-in-Tree-2 c = let no = told_front _ _ _ c.in-Tree.is c.front_next.ensures in let e = c.in_ok-name-in-Tree-2.ensures in
    left_leaves (literal_begins no.0 no.1 (read_at (ap plain_name (sym e.0)) c.in_ok-name-in-Tree.ensures) (told_read _ _ _ e.1 c.read_labels.ensures))
    (subst (λ (l : List X). Leaves (IsRow (plain_name c.in_ok-name-in-Tree-2.name) (map plain_expr c.in_ok-name-in-Tree-2.labels.items) (map plain_x l)) (IsLeft c.begin_child.result) closed (left c.read_labels.new.reader) (left c.begin_child.new.reader)) c.new-none.ensures.items c.begin_child.ensures)
