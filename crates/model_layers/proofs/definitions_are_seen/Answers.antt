use Rattle.model_layers.proofs.Sight.{definitions_are_seen}
use Rattle.model_layers.proofs.definitions_are_seen.Goals as goal

pub returns : goal.returns
returns c = definitions_are_seen
