use Rattle.std.proofs.Common.{sym, ap}
use Rattle.model_program.specs.declared.Word.TheVariants.{RoundOpen}
use Rattle.fast_lex.specs.Tokens.{lexeme}
use Rattle.fast_syntax.specs.View.{plain_name}
use Rattle.read_forms.proofs.Forms.{as_fails, then_fails, first_fails, ends_closed, read_at}
use Rattle.read_forms.proofs.Words.{word_read, word_refused}
use Rattle.label_reader.proofs.Exits.{stepped}
use Rattle.label_reader.proofs.Keeping.{told_read, told_fails}
use Rattle.tree_reader.proofs.TreeForms.{tree_makes, sample_children, sample_row_and_children, sample_inside}
use Rattle.tree_reader.proofs.Growing.{tree_opens, opened_is, opens_exit}
use Rattle.tree_reader.proofs.trees.open_tree.Goals as goal

pub returns-in_default-clause-opens : goal.returns-in_default-clause-opens
returns-in_default-clause-opens c = as_fails _ (tree_makes _) (first_fails _ (ends_closed _ _) sample_inside (record { why = word_refused _ _ c.in_default.ensures }))

pub returns-in_err-name-clause-opens : goal.returns-in_err-name-clause-opens
returns-in_err-name-clause-opens c =
    let e = stepped _ c.in-Some.ensures c.advance.ensures in
    opens_exit _ _ _ c.from_residual.result c.from_residual.ensures.1 (as_fails _ (tree_makes _) (then_fails _ (ends_closed _ _) (word_read RoundOpen (lexeme c.in-Some.left) _ _ e.0 e.1) (first_fails _ (ends_closed _ _) sample_row_and_children c.in_err-name.ensures)))

pub returns-in_err-name-2-clause-opens : goal.returns-in_err-name-2-clause-opens
returns-in_err-name-2-clause-opens c =
    let e = stepped _ c.in-Some.ensures c.advance.ensures in
    opens_exit _ _ _ c.from_residual-in_err-name-2.result c.from_residual-in_err-name-2.ensures.1
    (as_fails _ (tree_makes _) (then_fails _ (ends_closed _ _) (word_read RoundOpen (lexeme c.in-Some.left) _ _ e.0 e.1) (then_fails _ (ends_closed _ _) c.in_ok-name.ensures (first_fails _ (ends_closed _ _) sample_children (told_fails _ _ _ c.in_err-name-2.ensures c.read_constants.ensures)))))

pub returns-clause-opens : goal.returns-clause-opens
returns-clause-opens c =
    let e = stepped _ c.in-Some.ensures c.advance.ensures in let k = c.in_ok-name-2.ensures in
    opened_is (record { place = c.in-Some.left.place; name = c.in_ok-name-2.name; labels = c.in_ok-name-2.labels; children = c.new-children.result }) c.new-children.ensures.items (tree_opens (word_read RoundOpen (lexeme c.in-Some.left) _ _ e.0 e.1) (read_at (ap plain_name (sym k.0)) c.in_ok-name.ensures) (told_read _ _ _ k.1 c.read_constants.ensures))
