use Rattle.fast_lex.proofs.UnitLemmas.{quoted_next}
use Rattle.fast_lex.proofs.RunLemmas.{behind_one}
use Rattle.fast_lex.proofs.quoted.quoted.Goals as goal

pub returns : goal.returns
returns c = let e = c.in_ok-quote.ensures in quoted_next _ _ _ _ (behind_one _ _ _ e.bytes e.chars) c.if-quote-ne34.false c.in_ok-rest.ensures
