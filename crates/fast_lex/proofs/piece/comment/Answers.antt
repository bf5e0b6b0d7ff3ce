use Rattle.fast_lex.proofs.PieceLemmas.{comment_next}
use Rattle.fast_lex.proofs.RunLemmas.{behind_one}
use Rattle.fast_lex.proofs.piece.comment.Goals as goal

pub returns : goal.returns
returns c = let e = c.in_ok-first.ensures in let f = c.in_ok-second.ensures in
    comment_next _ _ _ _ _ _ (behind_one _ _ _ e.bytes e.chars) (behind_one _ _ _ f.bytes f.chars) c.if-first-ne47.false c.if-second-ne47.false c.run_end-rest.ensures
