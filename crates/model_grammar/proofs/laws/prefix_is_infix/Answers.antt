use Rattle.model_grammar.proofs.Infix.{prefixed}
use Rattle.model_grammar.proofs.laws.prefix_is_infix.Goals as goal

pub returns : goal.returns
returns c = prefixed
