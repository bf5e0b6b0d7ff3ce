use Rattle.model_layers.proofs.Names.{names_are_seen}
use Rattle.model_layers.proofs.names_are_seen.Goals as goal

pub returns : goal.returns
returns c = names_are_seen
