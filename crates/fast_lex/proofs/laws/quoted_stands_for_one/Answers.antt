use Rattle.model_program.proofs.QuoteLaws.{quoted_stands_for}
use Rattle.fast_lex.proofs.laws.quoted_stands_for_one.Goals as goal

pub returns : goal.returns
returns c = quoted_stands_for
