use Rattle.std.proofs.Common.{sym, ap, ◌∙◌}
use Rattle.std.proofs.lemmas.Int.{to_z-of_z}
use mir.Syntax.{w128}
use Rattle.label_reader.proofs.Digits.{number_fits}
use Rattle.model_program.specs.declared.Word.TheVariants.{Id, True, False, Quoted}
use Rattle.read_forms.proofs.Forms.{as_read, as_fails, read_at}
use Rattle.read_forms.proofs.Words.{word_read, next_of}
use Rattle.model_grammar.specs.Syntax.{field, number}
use Rattle.label_reader.proofs.ByToken.{numeral_at, numeral_fails, string_at, string_fails}
use Rattle.label_reader.proofs.Exits.{stepped, exit, other_next}
use Rattle.label_reader.proofs.Primaries.{name_makes, true_makes, false_makes, string_makes, number_makes, prim_ended}
use Rattle.label_reader.proofs.levels.read_leaf.Goals as goal

pub returns-in_default : goal.returns-in_default
returns-in_default c = prim_ended _ c.in_default.ensures

pub returns-in_ok-of-in-Id : goal.returns-in_ok-of-in-Id
returns-in_ok-of-in-Id c = let e = stepped _ (c.in-Some.ensures, c.in-Id.is) c.advance.ensures in read_at (ap (λ l. field c.in-Some.token.place l) (sym c.in_ok-of-in-Id.ensures)) (as_read (name_makes _ (next_of Id _ _ _ e.0 e.1)) (word_read Id _ _ _ e.0 e.1))

pub returns-in-True : goal.returns-in-True
returns-in-True c = let e = stepped _ (c.in-Some.ensures, c.in-True.is) c.advance-in-True.ensures in as_read (true_makes _ (next_of True _ _ _ e.0 e.1)) (word_read True _ _ _ e.0 e.1)

pub returns-in-False : goal.returns-in-False
returns-in-False c = let e = stepped _ (c.in-Some.ensures, c.in-False.is) c.advance-in-False.ensures in as_read (false_makes _ (next_of False _ _ _ e.0 e.1)) (word_read False _ _ _ e.0 e.1)

pub returns-in_err-read_string-in-Quoted : goal.returns-in_err-read_string-in-Quoted
returns-in_err-read_string-in-Quoted c = exit _ _ _ _ c.from_residual-in_err-read_string-in-Quoted.result c.from_residual-in_err-read_string-in-Quoted.ensures.1 (as_fails _ (string_makes _ (next_of Quoted _ _ _ c.in-Some.ensures c.in-Quoted.is)) (string_fails _ c.in_err-read_string-in-Quoted.ensures))

pub returns-in_ok-read_string-in-Quoted : goal.returns-in_ok-read_string-in-Quoted
returns-in_ok-read_string-in-Quoted c = as_read (string_makes _ (next_of Quoted _ _ _ c.in-Some.ensures c.in-Quoted.is)) (string_at _ c.in-Some.ensures c.in_ok-read_string-in-Quoted.ensures)

pub returns-in_err-read_numeral-in_default-word : goal.returns-in_err-read_numeral-in_default-word
returns-in_err-read_numeral-in_default-word c = let d = c.in_default-word in let here = c.in-Some.ensures in
    exit _ _ _ _ c.from_residual-in_err-read_numeral-in_default-word.result c.from_residual-in_err-read_numeral-in_default-word.ensures.1
    (as_fails _ (number_makes _ c.requires (other_next Id _ here d.not-Id) (other_next True _ here d.not-True) (other_next False _ here d.not-False) (other_next Quoted _ here d.not-Quoted)) (numeral_fails _ c.in_err-read_numeral-in_default-word.ensures))

pub returns-in_ok-read_numeral-in_default-word : goal.returns-in_ok-read_numeral-in_default-word
returns-in_ok-read_numeral-in_default-word c = let d = c.in_default-word in let here = c.in-Some.ensures in let read = c.in_ok-read_numeral-in_default-word.ensures in let at = numeral_at _ here read in
    read_at (ap (λ n. number c.in-Some.token.place n) (sym (to_z-of_z w128 _ (number_fits _ _ _ read) ∙ at.1)))
    (as_read (number_makes _ c.requires (other_next Id _ here d.not-Id) (other_next True _ here d.not-True) (other_next False _ here d.not-False) (other_next Quoted _ here d.not-Quoted)) at.0)
