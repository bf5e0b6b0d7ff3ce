use Rattle.model_layers.proofs.Names.{two_rules_are_part}
use Rattle.model_layers.proofs.two_rules_are_part.Goals as goal

pub returns : goal.returns
returns c = two_rules_are_part
