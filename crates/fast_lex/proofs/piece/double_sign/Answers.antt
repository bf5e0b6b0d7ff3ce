use Rattle.std.proofs.Common.{sym, ◌∙◌, ap}
use Rattle.model_program.specs.Spellings.{spelled, signs}
use Rattle.fast_lex.proofs.PieceLemmas.{double_none_short, double_none, double_next, other_end}
use Rattle.fast_lex.proofs.RunLemmas.{behind_one, behind_both}
use Rattle.fast_lex.proofs.piece.double_sign.Goals as goal

pub returns-in_err-second : goal.returns-in_err-second
returns-in_err-second c = rw c.from_residual-in_err-second.ensures (double_none_short _ _ _ c.in_ok-after.ensures.chars c.in_err-second.ensures.chars)

pub returns-then-not-ends_double : goal.returns-then-not-ends_double
returns-then-not-ends_double c = double_none _ _ _ _ _ c.in_ok-after.ensures.chars c.in_ok-second.ensures.chars (other_end _ _ (sym c.ends_double.ensures ∙ c.if-not-ends_double.true))

pub front-requires : goal.front-requires
front-requires c = let e = c.in_ok-after.ensures in let f = c.in_ok-second.ensures in
    record { front = _; behind = behind_both _ _ _ _ _ (behind_one _ _ _ e.bytes e.chars) (behind_one _ _ _ f.bytes f.chars) }

pub returns-in_err-word : goal.returns-in_err-word
returns-in_err-word c = let e = c.in_ok-after.ensures in let f = c.in_ok-second.ensures in
    rw c.from_residual-in_err-word.ensures (double_none _ _ _ _ _ e.chars f.chars
    (c.in_err-word.ensures ∙ ap (λ l. spelled signs l) (c.front.ensures.chars _ (behind_both _ _ _ _ _ (behind_one _ _ _ e.bytes e.chars) (behind_one _ _ _ f.bytes f.chars)))))

pub returns : goal.returns
returns c = let e = c.in_ok-after.ensures in let f = c.in_ok-second.ensures in let first = behind_one _ _ _ e.bytes e.chars in let second = behind_one _ _ _ f.bytes f.chars in
    double_next _ _ _ _ _ _ first second (c.in_ok-word.ensures ∙ ap (λ l. spelled signs l) (c.front.ensures.chars _ (behind_both _ _ _ _ _ first second)))
