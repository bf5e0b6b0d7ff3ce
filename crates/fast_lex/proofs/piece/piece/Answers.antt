use Rattle.std.proofs.Common.{sym, ◌∙◌, ap, subst}
use Rattle.model_program.specs.Pieces.{HasNoPiece, Digits, Text, Sign, Comment}
use Rattle.model_program.proofs.Families.{family_of, digit_begins, other_begins}
use Rattle.model_program.proofs.Unique.{nothing_ends}
use Rattle.fast_lex.proofs.PieceLemmas.{blank_found, alone_found, begins_at}
use Rattle.fast_lex.proofs.RunLemmas.{behind_one}
use Rattle.fast_lex.proofs.piece.piece.Goals as goal

pub returns-in_err-c : goal.returns-in_err-c
returns-in_err-c c = rw c.from_residual.ensures (subst HasNoPiece (sym c.in_err-c.ensures.chars) nothing_ends)

pub returns-then-is_blank : goal.returns-then-is_blank
returns-then-is_blank c = let e = c.in_ok-c.ensures in blank_found _ _ _ (behind_one _ _ _ e.bytes e.chars) (sym c.is_blank.ensures ∙ c.if-is_blank.true)

pub returns-then-is_ascii_digit : goal.returns-then-is_ascii_digit
returns-then-is_ascii_digit c = alone_found Digits tt _ (begins_at _ _ _ Digits c.in_ok-c.ensures.chars (digit_begins c.in_ok-c.c (sym c.is_ascii_digit.ensures.value ∙ c.if-is_ascii_digit.true))) _ c.number.ensures

pub returns-then-c-eq34 : goal.returns-then-c-eq34
returns-then-c-eq34 c = alone_found Text tt _ (begins_at _ _ _ Text c.in_ok-c.ensures.chars (ap family_of c.if-c-eq34.true)) _ c.quoted.ensures

pub returns-then-c-eq47 : goal.returns-then-c-eq47
returns-then-c-eq47 c = alone_found Comment tt _ (begins_at _ _ _ Comment c.in_ok-c.ensures.chars (ap family_of c.if-c-eq47.true)) _ c.comment.ensures

pub returns : goal.returns
returns c = alone_found Sign tt _ (begins_at _ _ _ Sign c.in_ok-c.ensures.chars (other_begins c.in_ok-c.c (sym c.is_blank.ensures ∙ c.if-is_blank.false) (sym c.begins_name.ensures ∙ c.if-begins_name.false) (sym c.is_ascii_digit.ensures.value ∙ c.if-is_ascii_digit.false) c.if-c-eq34.false c.if-c-eq47.false)) _ c.sign.ensures
