use Rattle.std.proofs.Common.{sym, ap, ◌∙◌}
use Rattle.std.proofs.lemmas.Int.{to_z-of_z}
use mir.Syntax.{w128}
use Rattle.label_reader.proofs.ByToken.{numeral_of, numeral_at, numeral_fails, string_at, string_fails}
use Rattle.label_reader.proofs.Digits.{number_fits, negated_number_is}
use Rattle.model_program.specs.declared.Word.TheVariants.{True, False, Quoted, Minus}
use Rattle.read_forms.proofs.Forms.{as_read, as_fails, then_read, then_fails, ends_closed, read_at}
use Rattle.read_forms.proofs.Words.{word_read, next_of}
use Rattle.model_grammar.specs.Syntax.{number}
use Rattle.label_reader.proofs.Exits.{stepped, exit, other_next}
use Rattle.tree_reader.proofs.ConstantForms.{true_makes, false_makes, text_makes, negative_makes, number_makes, label_ended}
use Rattle.tree_reader.proofs.constants.ConstantsItems.read_item.Goals as goal

pub returns-in_default : goal.returns-in_default
returns-in_default c = label_ended _ c.in_default.ensures

pub returns-in-True : goal.returns-in-True
returns-in-True c = let e = stepped _ (c.in-Some.ensures, c.in-True.is) c.advance.ensures in as_read (true_makes _ (next_of True _ _ _ e.0 e.1)) (word_read True _ _ _ e.0 e.1)

pub returns-in-False : goal.returns-in-False
returns-in-False c = let e = stepped _ (c.in-Some.ensures, c.in-False.is) c.advance-in-False.ensures in as_read (false_makes _ (next_of False _ _ _ e.0 e.1)) (word_read False _ _ _ e.0 e.1)

pub returns-in_err-read_string-in-Quoted : goal.returns-in_err-read_string-in-Quoted
returns-in_err-read_string-in-Quoted c = exit _ _ _ _ c.from_residual.result c.from_residual.ensures.1 (as_fails _ (text_makes _ (next_of Quoted _ _ _ c.in-Some.ensures c.in-Quoted.is)) (string_fails _ c.in_err-read_string-in-Quoted.ensures))

pub returns-in_ok-read_string-in-Quoted : goal.returns-in_ok-read_string-in-Quoted
returns-in_ok-read_string-in-Quoted c = as_read (text_makes _ (next_of Quoted _ _ _ c.in-Some.ensures c.in-Quoted.is)) (string_at _ c.in-Some.ensures c.in_ok-read_string-in-Quoted.ensures)

pub returns-in_err-read_numeral-in-Minus : goal.returns-in_err-read_numeral-in-Minus
returns-in_err-read_numeral-in-Minus c = let e = stepped _ (c.in-Some.ensures, c.in-Minus.is) c.advance-in-Minus.ensures in exit _ _ _ _ c.from_residual-in_err-read_numeral-in-Minus.result c.from_residual-in_err-read_numeral-in-Minus.ensures.1
    (as_fails _ (negative_makes _ (next_of Minus _ _ _ e.0 e.1)) (then_fails _ (ends_closed _ _) (word_read Minus _ _ _ e.0 e.1) (numeral_fails _ c.in_err-read_numeral-in-Minus.ensures)))

pub returns-in_ok-read_numeral-in-Minus : goal.returns-in_ok-read_numeral-in-Minus
returns-in_ok-read_numeral-in-Minus c = let e = stepped _ (c.in-Some.ensures, c.in-Minus.is) c.advance-in-Minus.ensures in let of = numeral_of c.in_ok-read_numeral-in-Minus.ensures in
    read_at (ap (λ n. number c.in-Some.token.place n) (sym (negated_number_is _ _ of.3 of.2.spelled.1)))
    (as_read (negative_makes _ (next_of Minus _ _ _ e.0 e.1)) (then_read (ends_closed _ _) (word_read Minus _ _ _ e.0 e.1) of.2))

pub returns-in_err-read_numeral-in_default-word : goal.returns-in_err-read_numeral-in_default-word
returns-in_err-read_numeral-in_default-word c = let d = c.in_default-word in let here = c.in-Some.ensures in
    exit _ _ _ _ c.from_residual-in_err-read_numeral-in_default-word.result c.from_residual-in_err-read_numeral-in_default-word.ensures.1
    (as_fails _ (number_makes _ (other_next True _ here d.not-True) (other_next False _ here d.not-False) (other_next Quoted _ here d.not-Quoted) (other_next Minus _ here d.not-Minus)) (numeral_fails _ c.in_err-read_numeral-in_default-word.ensures))

pub returns-in_ok-read_numeral-in_default-word : goal.returns-in_ok-read_numeral-in_default-word
returns-in_ok-read_numeral-in_default-word c = let d = c.in_default-word in let here = c.in-Some.ensures in let read = c.in_ok-read_numeral-in_default-word.ensures in let at = numeral_at _ here read in
    read_at (ap (λ n. number c.in-Some.token.place n) (sym (to_z-of_z w128 _ (number_fits _ _ _ read) ∙ at.1)))
    (as_read (number_makes _ (other_next True _ here d.not-True) (other_next False _ here d.not-False) (other_next Quoted _ here d.not-Quoted) (other_next Minus _ here d.not-Minus)) at.0)
