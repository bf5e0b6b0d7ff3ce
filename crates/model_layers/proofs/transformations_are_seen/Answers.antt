use Rattle.model_layers.proofs.Sight.{transformations_are_seen}
use Rattle.model_layers.proofs.transformations_are_seen.Goals as goal

pub returns : goal.returns
returns c = transformations_are_seen
