use Rattle.model_meaning.proofs.Rules.{by_rules}
use Rattle.model_meaning.proofs.names_are_by_rules.Goals as goal

pub returns : goal.returns
returns c = by_rules
