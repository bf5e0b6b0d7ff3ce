use Rattle.model_program.proofs.TokenTexts.{tokens_texts}
use Rattle.fast_lex.proofs.laws.tokens_have_texts.Goals as goal

pub returns : goal.returns
returns c = tokens_texts
