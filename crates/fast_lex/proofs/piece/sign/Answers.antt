use Rattle.std.proofs.Common.{◌∙◌, ap}
use Rattle.model_program.specs.Spellings.{spelled, signs}
use Rattle.fast_lex.proofs.PieceLemmas.{single_none, sign_none_ended, single_next}
use Rattle.fast_lex.proofs.RunLemmas.{behind_one}
use Rattle.fast_lex.proofs.piece.sign.Goals as goal

pub returns-in_err-rest : goal.returns-in_err-rest
returns-in_err-rest c = rw c.from_residual.ensures (sign_none_ended _ c.in_err-rest.ensures.chars)

pub front-requires : goal.front-requires
front-requires c = let e = c.in_ok-rest.ensures in record { front = _; behind = behind_one _ _ _ e.bytes e.chars }

pub returns-in_err-word : goal.returns-in_err-word
returns-in_err-word c = let e = c.in_ok-rest.ensures in
    rw c.from_residual-in_err-word.ensures (single_none _ _ _ e.chars c.in_default.ensures (c.in_err-word.ensures ∙ ap (λ l. spelled signs l) (c.front.ensures.chars _ (behind_one _ _ _ e.bytes e.chars))))

pub returns : goal.returns
returns c = let e = c.in_ok-rest.ensures in let behind = behind_one _ _ _ e.bytes e.chars in
    single_next _ _ _ _ behind c.in_default.ensures (c.in_ok-word.ensures ∙ ap (λ l. spelled signs l) (c.front.ensures.chars _ behind))
