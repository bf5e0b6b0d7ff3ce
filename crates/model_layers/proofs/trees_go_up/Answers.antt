use Rattle.model_layers.proofs.Told.{trees_go_up}
use Rattle.model_layers.proofs.trees_go_up.Goals as goal

pub returns : goal.returns
returns c = trees_go_up
