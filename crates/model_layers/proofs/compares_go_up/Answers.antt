use Rattle.model_layers.proofs.Compared.{compares_go_up}
use Rattle.model_layers.proofs.compares_go_up.Goals as goal

pub returns : goal.returns
returns c = compares_go_up
