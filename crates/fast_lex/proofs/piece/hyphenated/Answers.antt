use Rattle.std.proofs.Common.{sym, subst, ◌∙◌, ap}
use Rattle.model_program.specs.Spellings.{spelled, hyphenated}
use Rattle.fast_lex.proofs.PieceLemmas.{HasNoHyphen, hyphenated_none_end, hyphenated_none, hyphenated_next, joined_behind}
use Rattle.fast_lex.proofs.RunLemmas.{behind_one}
use Rattle.fast_lex.proofs.piece.hyphenated.Goals as goal

pub returns-in_err-hyphen : goal.returns-in_err-hyphen
returns-in_err-hyphen c = rw c.from_residual.ensures (hyphenated_none_end _ _ c.requires (subst HasNoHyphen (sym c.in_err-hyphen.ensures.chars) tt))

pub returns-then-hyphen-ne45 : goal.returns-then-hyphen-ne45
returns-then-hyphen-ne45 c = hyphenated_none_end _ _ c.requires (subst HasNoHyphen (sym c.in_ok-hyphen.ensures.chars) c.if-hyphen-ne45.true)

pub front-requires : goal.front-requires
front-requires c = let e = c.in_ok-hyphen.ensures in
    record { front = _; behind = joined_behind _ _ _ _ _ c.requires c.run_end-rest.ensures (behind_one _ _ _ e.bytes e.chars) c.if-hyphen-ne45.false }

pub returns-in_err-word : goal.returns-in_err-word
returns-in_err-word c = let e = c.in_ok-hyphen.ensures in let run = c.run_end-rest.ensures in
    rw c.from_residual-in_err-word.ensures (hyphenated_none _ _ _ _ _ c.requires run e.chars
    (c.in_err-word.ensures ∙ ap (λ l. spelled hyphenated l) (c.front.ensures.chars _ (joined_behind _ _ _ _ _ c.requires run (behind_one _ _ _ e.bytes e.chars) c.if-hyphen-ne45.false))))

pub returns : goal.returns
returns c = let e = c.in_ok-hyphen.ensures in let run = c.run_end-rest.ensures in
    hyphenated_next _ _ _ _ _ _ c.requires run (behind_one _ _ _ e.bytes e.chars) c.if-hyphen-ne45.false
    (c.in_ok-word.ensures ∙ ap (λ l. spelled hyphenated l) (c.front.ensures.chars _ (joined_behind _ _ _ _ _ c.requires run (behind_one _ _ _ e.bytes e.chars) c.if-hyphen-ne45.false)))
