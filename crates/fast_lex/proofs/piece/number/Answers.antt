use Rattle.std.proofs.Common.{inl, inr}
use Rattle.fast_lex.proofs.PieceLemmas.{number_next, number_none}
use Rattle.fast_lex.proofs.piece.number.Goals as goal

pub returns-then-count-eq0 : goal.returns-then-count-eq0
returns-then-count-eq0 c = number_none _ _ _ c.run_end-rest.ensures c.front-count.ensures.bytes (elim c.then-count-eq0.either [ inl e ↦ inl e | inr e ↦ inr e.1 ])

pub returns : goal.returns
returns c = number_next _ _ _ c.run_end-rest.ensures c.front-count.ensures.bytes c.if-count-eq0.false c.if-count-gt38.false
