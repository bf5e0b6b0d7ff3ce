use Rattle.model_program.proofs.Unique.{same_tokens}
use Rattle.fast_lex.proofs.laws.tokens_are_one.Goals as goal

pub returns : goal.returns
returns c = same_tokens
