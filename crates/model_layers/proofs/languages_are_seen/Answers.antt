use Rattle.model_layers.proofs.Sight.{languages_are_seen}
use Rattle.model_layers.proofs.languages_are_seen.Goals as goal

pub returns : goal.returns
returns c = languages_are_seen
