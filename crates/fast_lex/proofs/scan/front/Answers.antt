use Rattle.fast_lex.proofs.RunLemmas.{cut_before, front_chars}
use Rattle.fast_lex.proofs.scan.front.Goals as goal

pub split_at-requires : goal.split_at-requires
split_at-requires c = cut_before _ _ c.requires c.utf8.rest

pub returns-clause-chars : goal.returns-clause-chars
returns-clause-chars c = λ front behind. front_chars _ _ _ _ c.utf8.text c.utf8.rest c.split_at.ensures.front behind
