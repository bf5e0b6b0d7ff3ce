use Rattle.model_layers.proofs.Told.{counts_go_up}
use Rattle.model_layers.proofs.counts_go_up.Goals as goal

pub returns : goal.returns
returns c = counts_go_up
