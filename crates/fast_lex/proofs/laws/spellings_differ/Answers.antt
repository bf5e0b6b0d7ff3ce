use Rattle.fast_lex.proofs.Spellings.{spelled_alone}
use Rattle.fast_lex.proofs.laws.spellings_differ.Goals as goal

pub returns : goal.returns
returns c = spelled_alone
