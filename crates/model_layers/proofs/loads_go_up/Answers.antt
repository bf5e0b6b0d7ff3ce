use Rattle.model_layers.proofs.Loads.{loads_go_up}
use Rattle.model_layers.proofs.loads_go_up.Goals as goal

pub returns : goal.returns
returns c = loads_go_up
